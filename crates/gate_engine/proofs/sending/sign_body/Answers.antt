use Rattle.std.proofs.Common.{◌≡◌, ◌⊎◌, ◌∷◌, ◌++◌, [], ℕ, List, take, arith, Some, None, refl, inl, inr, ap, subst, ◌∙◌}
use Rattle.std.specs.Option.{option_map}
use Rattle.plant.specs.Plant.{DiskTold, SignerTold}
use Rattle.gate_engine.proofs.Kept.{stands_sent, sent_sent, between_sent, between_sent_settled, between_on}
use Rattle.gate_engine.proofs.sending.sign_body.Goals as goal

pub keep_signature-requires-clause-stands : goal.keep_signature-requires-clause-stands
keep_signature-requires-clause-stands g c =
    stands_sent c.args.history.now.items c.args.loose.now c.requires.settled c.args.signing.body _ c.as_slice.ensures (g.P.Plant.stops c.args.plant.now)
    (g.P.Plant.stops c.sign.new.self) c.requires.stands c.sign.ensures.moments

pub returns-in-Ok-clause-signed : goal.returns-in-Ok-clause-signed
returns-in-Ok-clause-signed g c =
    let left = c.keep_signature.ensures.signer in
    let signature = take c.in-Ok.count c.sign.new.out in
    let sent = (g.P.Plant.told c.args.plant.now).signer.sent in
    let answers = (g.P.Plant.told c.args.plant.now).signer.answers in
    record {
      call = Some (record { body = c.args.signing.body; signature = Some signature });
      gives = record {
        sent = ap (λ (s : SignerTold). s.sent) left
            ∙ subst (λ (b : List ℕ). (g.P.Plant.told c.sign.new.self).signer.sent ≡ option_map (λ (list : List (List ℕ)). list ++ b ∷ []) sent) c.as_slice.ensures c.in-Ok.ensures.sent;
        answers = ap (λ (s : SignerTold). s.answers) left
            ∙ subst (λ (b : List ℕ). (g.P.Plant.told c.sign.new.self).signer.answers ≡ option_map (λ (list : List (List ℕ × List ℕ)). list ++ (b, signature) ∷ []) answers) c.as_slice.ensures
            c.in-Ok.ensures.answered;
        later = omega (arith, c.in-Ok.ensures.cause.later, ap (λ (s : SignerTold). s.faults) left);
      };
      signs = inr (record { signature = signature; called = refl; follows = c.keep_signature.ensures.follows; keeps = c.keep_signature.ensures.kept });
    }

pub returns-in-Ok-clause-keeps : goal.returns-in-Ok-clause-keeps
returns-in-Ok-clause-keeps g c =
    let sent = between_sent_settled c.args.history.now.items c.args.loose.now c.requires.settled c.args.signing.body _ c.as_slice.ensures (g.P.Plant.stops c.args.plant.now)
    (g.P.Plant.stops c.sign.new.self) c.requires.stands c.sign.ensures.moments in
    let kept = c.keep_signature.ensures.keeps in
    record {
      stands = kept.stands;
      recorded = λ given. kept.recorded (sent_sent c.args.history.now.items c.args.loose.now c.requires.settled c.args.signing.body _ c.as_slice.ensures (g.P.Plant.stops c.args.plant.now)
          (g.P.Plant.stops c.sign.new.self) c.requires.stands c.sign.ensures.moments given.0 given.1);
      since = between_on _ _ (λ given. sent_sent c.args.history.now.items c.args.loose.now c.requires.settled c.args.signing.body _ c.as_slice.ensures (g.P.Plant.stops c.args.plant.now)
          (g.P.Plant.stops c.sign.new.self) c.requires.stands c.sign.ensures.moments given.0 given.1)
          _ _ _ _ _ _ (c.runs_join.ensures.joins c.args.plant.now c.sign.new.self c.keep_signature.new.plant sent.joins kept.since.joins) sent kept.since;
      later = omega (arith, ap (λ (d : DiskTold). d.faults) c.sign.ensures.disk, kept.later);
    }

pub returns-in-Err-clause-signed : goal.returns-in-Err-clause-signed
returns-in-Err-clause-signed g c =
    let before = (g.P.Plant.told c.args.plant.now).signer.sent in
    let now = (g.P.Plant.told c.sign.new.self).signer.sent in
    record {
      call = Some (record { body = c.args.signing.body; signature = None });
      gives = record {
        sent = subst (λ (b : List ℕ). (now ≡ before) ⊎ (now ≡ option_map (λ (list : List (List ℕ)). list ++ b ∷ []) before)) c.as_slice.ensures c.in-Err.ensures.unsure;
        answers = c.in-Err.ensures.unanswered;
        cause = c.in-Err.ensures.cause.failed;
      };
      signs = inl (record { called = refl; fault = refl; held = (refl, c.requires.settled) });
    }

pub returns-in-Err-clause-keeps : goal.returns-in-Err-clause-keeps
returns-in-Err-clause-keeps g c = record {
  stands = stands_sent c.args.history.now.items c.args.loose.now c.requires.settled c.args.signing.body _ c.as_slice.ensures (g.P.Plant.stops c.args.plant.now)
      (g.P.Plant.stops c.sign.new.self) c.requires.stands c.sign.ensures.moments;
  recorded = λ given. sent_sent c.args.history.now.items c.args.loose.now c.requires.settled c.args.signing.body _ c.as_slice.ensures (g.P.Plant.stops c.args.plant.now)
      (g.P.Plant.stops c.sign.new.self) c.requires.stands c.sign.ensures.moments given.0 given.1;
  since = between_sent c.args.history.now.items c.args.loose.now c.requires.settled c.args.signing.body _ c.as_slice.ensures (g.P.Plant.stops c.args.plant.now)
      (g.P.Plant.stops c.sign.new.self) c.requires.stands c.sign.ensures.moments;
  later = omega (arith, ap (λ (d : DiskTold). d.faults) c.sign.ensures.disk);
}
