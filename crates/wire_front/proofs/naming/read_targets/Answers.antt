use Rattle.std.proofs.Common.{◌<◌, ◌∷◌, [], length, arith, refl, ap, length-append}
use Rattle.wire_front.proofs.NameLemmas.{none_quoted, too_many, repeated, no_comma, goes_on, ends, nothing, something, comma, no_comma_there}
use Rattle.wire_front.proofs.naming.read_targets.Goals as goal

pub returns-in_default : goal.returns-in_default
returns-in_default c = none_quoted c.args.text.now c.loop.targets c.loop.rest.now c.loop.invariant.begun (rw c.in_default.is at c.in_ok-target.ensures)

pub returns-then-is_among : goal.returns-then-is_among
returns-then-is_among c =
    let read = rw c.in-Some.is at c.in_ok-target.ensures in
    let among = rw c.as_slice.ensures at (c.if-is_among.ensures.among refl) in
    repeated c.args.text.now c.loop.targets c.loop.rest.now c.loop.invariant.begun c.in-Some.target c.in-Some.behind.now read among

pub returns-then-is_empty : goal.returns-then-is_empty
returns-then-is_empty c =
    let read = rw c.in-Some.is at c.in_ok-target.ensures in
    let fresh = rw c.as_slice.ensures at (c.if-is_among.ensures.none refl) in
    let few : length c.loop.targets < 100 = omega arith in
    rw c.in_ok-push.ensures.ok (ends c.args.text.now c.loop.targets c.loop.rest.now c.loop.invariant.begun c.in-Some.target c.in-Some.behind.now read
    (nothing c.in-Some.behind.now c.if-is_empty.ensures) fresh few)

pub returns-in_default-strip_text : goal.returns-in_default-strip_text
returns-in_default-strip_text c =
    let read = rw c.in-Some.is at c.in_ok-target.ensures in
    no_comma c.args.text.now c.loop.targets c.loop.rest.now c.loop.invariant.begun c.in-Some.target c.in-Some.behind.now read
    (something c.in-Some.behind.now c.if-is_empty.ensures) (no_comma_there c.in-Some.behind.now c.in_default-strip_text.ensures)

pub loop-preserved : goal.loop-preserved
loop-preserved c =
    let read = rw c.in-Some.is at c.in_ok-target.ensures in
    let fresh = rw c.as_slice.ensures at (c.if-is_among.ensures.none refl) in
    record {
      begun = rw c.in_ok-push.ensures.ok (goes_on c.args.text.now c.loop.targets c.loop.rest.now c.loop.invariant.begun c.in-Some.target c.in-Some.behind.now read
          c.in-Some-strip_text.more.now (comma c.in-Some.behind.now c.in-Some-strip_text.more.now c.in-Some-strip_text.ensures) fresh);
      count = omega (arith, ap length c.in_ok-push.ensures.ok, length-append c.loop.targets (c.in-Some.target ∷ []), c.loop.invariant.count);
    }

pub returns : goal.returns
returns c = too_many c.args.text.now c.loop.targets c.loop.rest.now c.loop.invariant.begun (omega arith)
