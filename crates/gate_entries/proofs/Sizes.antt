-- How long spellings are.
use Rattle.std.proofs.Common.{◌≡◌, ℕ, ◌+◌, ◌*◌, ◌^◌, ◌<◌, ◌≤◌, Bool, true, List, [], ◌∷◌, ◌++◌, length, Option, Some, None, subst, refl, ap, ◌∙◌, arith, length-append}
use Rattle.std.specs.Prelude.{IfSome, option_map, sum_by}
use Rattle.std.specs.List.{flat_map, AllByRecursion}
use Rattle.std.specs.Int.{w8, w16, w32, w64, to_be_bytes}
use Rattle.std.proofs.Math.Nat.{suc-mul}
use Rattle.std.proofs.lemmas.List.Concat.{flat_map-cons}
use Rattle.std.proofs.lemmas.List.Sums.{sum_by-cons}
use Rattle.gate_base.specs.declared.moment.Moment.{Moment}
use Rattle.gate_base.specs.declared.name.Address.TheVariants.{V4, V6}
use Rattle.gate_base.specs.declared.name.Target.{Target}
use Rattle.gate_base.specs.declared.name.Target.TheVariants.{Dns, Ip}
use Rattle.gate_base.specs.declared.sixteen.Sixteen.{Sixteen}
use Rattle.gate_entries.specs.declared.caller.Caller.{Caller}
use Rattle.gate_entries.specs.declared.command.Command.{Command}
use Rattle.gate_entries.specs.declared.command.Command.TheVariants as commands
use Rattle.gate_entries.specs.declared.entry.Entry.{Entry}
use Rattle.gate_entries.specs.declared.entry.What.{What}
use Rattle.gate_entries.specs.declared.entry.What.TheVariants as whats
use Rattle.gate_base.specs.declared.seen.CaaAnswer.{CaaAnswer}
use Rattle.gate_base.specs.declared.seen.CaaAnswer.TheVariants.{Failed, Set}
use Rattle.gate_base.specs.declared.seen.CaaRow.{CaaRow}
use Rattle.gate_base.specs.declared.seen.CaaSeen.{CaaSeen}
use Rattle.gate_base.specs.declared.seen.DnsSeen.{DnsSeen}
use Rattle.gate_base.specs.declared.seen.Hop.{Hop}
use Rattle.gate_base.specs.declared.seen.Method.{Method}
use Rattle.gate_base.specs.declared.seen.Seen.{Seen}
use Rattle.gate_base.specs.declared.seen.Seen.TheVariants as seens
use Rattle.gate_base.specs.declared.seen.WebSeen.{WebSeen}
use Rattle.gate_entries.specs.Field.{counted, truth, list_bytes, AreItems}
use Rattle.gate_entries.specs.Kind.{kind_number, kind_of}
use Rattle.gate_entries.specs.Target.{target_bytes, IsTarget}
use Rattle.gate_entries.specs.Order.{order_bytes, IsOrder}
use Rattle.gate_entries.specs.Challenge.{method_number, is_thumb_of, challenge_bytes, IsChallenge}
use Rattle.gate_entries.specs.Observation.{text_bytes, hop_bytes, dns_bytes, web_bytes, seen_bytes, IsText, IsHop, IsDnsSeen, IsWebSeen, IsSeen, observation_bytes, IsObservation}
use Rattle.gate_entries.specs.CaaAnswer.{row_bytes, answer_bytes, IsRow, IsAnswer, caa_bytes, IsCaa}
use Rattle.gate_entries.specs.Numbered.{numbered_bytes}
use Rattle.gate_entries.specs.Blocked.{blocked_bytes, IsBlocked}
use Rattle.gate_entries.specs.Spelling.{what_bytes, entry_bytes, HasCaller, IsWhat, most_bytes, IsEntry}
use Rattle.gate_entries.specs.Fits.{TargetFits, OrderFits, FieldsFit, target_length, observed_length, answered_length, given_length}
use Rattle.gate_entries.specs.Command.{settings_entry, what_of, entry_with, entry_for, IsAskedOrder, IsAskedObservation, AreAskedAnswers, IsCommand, HasNames, IsCaller}
use Rattle.gate_entries.proofs.Names.{text_size}

-- ---- targets

pub target_fits : (target : Target) → IsTarget target → TargetFits target
target_fits (Dns name) is = omega (arith, text_size name is)
target_fits (Ip (V4 octets)) is = tt
target_fits (Ip (V6 octets)) is = tt

pub target_is_as_long : (target : Target) → IsTarget target → target_length target ≡ length (target_bytes target)
target_is_as_long (Dns name) is = omega (arith, length-append {A = ℕ})
target_is_as_long (Ip (V4 octets)) is = omega (arith, is)
target_is_as_long (Ip (V6 octets)) is = omega (arith, is)

fit_target : (target : Target) → TargetFits target → target_length target ≤ 258
fit_target (Dns name) fits = omega (arith, fits)
fit_target (Ip (V4 octets)) fits = omega arith
fit_target (Ip (V6 octets)) fits = omega arith

fit_targets : (targets : List Target) → AllByRecursion TargetFits targets → sum_by target_length targets ≤ 258 * length targets
fit_targets [] fit = omega arith
fit_targets (target ∷ targets) fit =
    let one = fit_target target fit.0 in
    let others = fit_targets targets fit.1 in
    let both = sum_by-cons target_length target targets in
    omega (arith, one, others, both)

-- ---- lists of items that each take at most so many bytes

items_size : {A : Type 0} (spelling : A → List ℕ) (HasSpelling : A → Type 0) (most : ℕ) → ((a : A) → HasSpelling a → length (spelling a) ≤ most)
    → (items : List A) → AllByRecursion HasSpelling items → length (flat_map spelling items) ≤ length items * most
items_size spelling HasSpelling most each [] are = omega arith
items_size spelling HasSpelling most each (item ∷ items) are =
    let one = each item are.0 in
    let others = items_size spelling HasSpelling most each items are.1 in
    let both : length (flat_map spelling (item ∷ items)) ≡ length (spelling item) + length (flat_map spelling items) =
    ap length (flat_map-cons spelling item items) ∙ length-append (spelling item) (flat_map spelling items) in
    let more : length (item ∷ items) * most ≡ length items * most + most = suc-mul (length items) most in
    omega (arith, one, others, both, more)

list_size : {A : Type 0} (spelling : A → List ℕ) (items : List A) → length (list_bytes spelling items) ≡ 1 + length (flat_map spelling items)
list_size spelling items = length-append (to_be_bytes w8 (length items)) (flat_map spelling items)

text_size16 : (text : List ℕ) → IsText text → length (text_bytes text) ≤ 65537
text_size16 text is = omega (arith, is, length-append (to_be_bytes w16 (length text)) text)

hop_size : (hop : Hop) → IsHop hop → length (hop_bytes hop) ≤ 65539
hop_size hop is =
    let e1 = length-append (to_be_bytes w16 hop.status) (counted w16 hop.location) in
    let e2 = length-append (to_be_bytes w16 (length hop.location)) hop.location in
    omega (arith, e1, e2, is.location_fits)

row_size : (row : CaaRow) → IsRow row → length (row_bytes row) ≤ 65794
row_size row is =
    let e1 = length-append (to_be_bytes w8 row.flags ++ counted w8 row.tag) (counted w16 row.value) in
    let e2 = length-append (to_be_bytes w8 row.flags) (counted w8 row.tag) in
    let e3 = length-append (to_be_bytes w8 (length row.tag)) row.tag in
    let e4 = length-append (to_be_bytes w16 (length row.value)) row.value in
    omega (arith, e1, e2, e3, e4, is.tag_fits, is.value_fits)

texts_size : (texts : List (List ℕ)) → AreItems IsText texts → length (list_bytes text_bytes texts) ≤ 2 ^ 25
texts_size texts are = omega (arith, list_size text_bytes texts, items_size text_bytes IsText 65537 text_size16 texts are.each, are.count)

hops_size : (hops : List Hop) → AreItems IsHop hops → length (list_bytes hop_bytes hops) ≤ 2 ^ 25
hops_size hops are = omega (arith, list_size hop_bytes hops, items_size hop_bytes IsHop 65539 hop_size hops are.each, are.count)

rows_size : (rows : List CaaRow) → AreItems IsRow rows → length (list_bytes row_bytes rows) ≤ 2 ^ 25
rows_size rows are = omega (arith, list_size row_bytes rows, items_size row_bytes IsRow 65794 row_size rows are.each, are.count)

answer_size : (answer : CaaAnswer) → IsAnswer answer → length (answer_bytes answer) ≤ 2 ^ 26
answer_size Failed is = omega arith
answer_size (Set ttl rows) is = omega (arith, length-append (to_be_bytes w32 ttl) (list_bytes row_bytes rows), rows_size rows is.1)

-- what was seen, and answers, are far from the greatest number
pub answers_size : (answers : List CaaAnswer) → AreItems IsAnswer answers → length (list_bytes answer_bytes answers) ≤ 2 ^ 40
answers_size answers are = omega (arith, list_size answer_bytes answers, items_size answer_bytes IsAnswer (2 ^ 26) answer_size answers are.each, are.count)

dns_size : (seen : DnsSeen) → IsDnsSeen seen → length (dns_bytes seen) < 2 ^ 40
dns_size seen is =
    let e1 = length-append (counted w8 seen.prefix ++ list_bytes text_bytes seen.txts) (list_bytes text_bytes seen.cnames) in
    let e2 = length-append (counted w8 seen.prefix) (list_bytes text_bytes seen.txts) in
    let e3 = length-append (to_be_bytes w8 (length seen.prefix)) seen.prefix in
    omega (arith, e1, e2, e3, is.prefix_fits, texts_size seen.txts is.are_txts, texts_size seen.cnames is.are_cnames)

web_size : (seen : WebSeen) → IsWebSeen seen → length (web_bytes seen) < 2 ^ 40
web_size seen is =
    let e1 = length-append (counted w16 seen.url ++ list_bytes hop_bytes seen.hops ++ to_be_bytes w16 seen.status) (counted w16 seen.body) in
    let e2 = length-append (counted w16 seen.url ++ list_bytes hop_bytes seen.hops) (to_be_bytes w16 seen.status) in
    let e3 = length-append (counted w16 seen.url) (list_bytes hop_bytes seen.hops) in
    let e4 = length-append (to_be_bytes w16 (length seen.url)) seen.url in
    let e5 = length-append (to_be_bytes w16 (length seen.body)) seen.body in
    omega (arith, e1, e2, e3, e4, e5, is.url_fits, is.body_fits, hops_size seen.hops is.are_hops)

pub seen_size : (seen : Seen) → IsSeen seen → length (seen_bytes seen) ≤ 2 ^ 40
seen_size (seens.Dns seen) is = omega (arith, dns_size seen is)
seen_size (seens.Web seen) is = omega (arith, web_size seen is)

-- ---- what commands give

pub order_given : (key : List ℕ) (targets : List Target) (days : ℕ) (common : Bool) (request : List ℕ) → OrderFits key targets request
    → 17 + (2 + 64) + given_length (commands.Order key targets days common request) ≤ most_bytes
order_given key targets days common request fits = omega (arith, fit_targets targets fits.each, fits.key_fits, fits.count, fits.request_fits)

pub challenge_given : (key : List ℕ) (order : ℕ) (target : Target) (method : Method) → length key < 2 ^ 8 → TargetFits target
    → 17 + (2 + 64) + given_length (commands.Challenge key order target method) ≤ most_bytes
challenge_given key order target method key_fits fits = omega (arith, key_fits, fit_target target fits)

pub block_given : (key spki : List ℕ) → IsBlocked key spki → 17 + (2 + 64) + given_length (commands.Block key spki) ≤ most_bytes
block_given key spki fits = omega (arith, fits.0, fits.1)

-- what fits and has names is a command
pub fits_command : (command : Command) → FieldsFit command → 17 + (2 + 64) + given_length command ≤ most_bytes → HasNames command → IsCommand command
fits_command (commands.Order key targets days common request) fits size named =
    record { key_fits = fits.key_fits; are_targets = record { count = fits.count; each = named }; request_fits = fits.request_fits }
fits_command (commands.Challenge key order target method) fits size named = (fits.0, named)
fits_command (commands.Observe key challenge moment seen) fits size named = record { key_fits = fits.0; is_seen = fits.1; size = size }
fits_command (commands.ObserveCaa key order target moment caa) fits size named =
    record { key_fits = fits.key_fits; is_target = named; are_answers = fits.are_answers; size = size }
fits_command (commands.Finalize order) fits size named = tt
fits_command (commands.Block key spki) fits size named = fits

-- ---- what commands write

target_size : (target : Target) → IsTarget target → length (target_bytes target) ≤ 258
target_size target is = omega (arith, target_is_as_long target is, fit_target target (target_fits target is))

order_size : (key : List ℕ) (common : Bool) (days : ℕ) (targets : List Target) (request : List ℕ) → IsAskedOrder key targets request
    → 17 + (2 + 64) + length (order_bytes key common days targets request) ≤ most_bytes
order_size key common days targets request is =
    let all = items_size target_bytes IsTarget 258 target_size targets is.are_targets.each in
    let e1 = length-append (counted w8 key ++ truth common ++ to_be_bytes w16 days ++ list_bytes target_bytes targets) (counted w16 request) in
    let e2 = length-append (counted w8 key ++ truth common ++ to_be_bytes w16 days) (list_bytes target_bytes targets) in
    let e3 = length-append (counted w8 key ++ truth common) (to_be_bytes w16 days) in
    let e4 = length-append (counted w8 key) (truth common) in
    let e5 = list_size target_bytes targets in
    let e6 = length-append (to_be_bytes w8 (length key)) key in
    let e7 = length-append (to_be_bytes w16 (length request)) request in
    omega (arith, all, e1, e2, e3, e4, e5, e6, e7, is.key_fits, is.request_fits, is.are_targets.count)

observation_length : (key : List ℕ) (challenge moment : ℕ) (seen : Seen) → length (observation_bytes key challenge moment seen) ≡ observed_length key seen
observation_length key challenge moment seen =
    let e1 = length-append (counted w8 key ++ to_be_bytes w64 challenge ++ to_be_bytes w64 moment) (seen_bytes seen) in
    let e2 = length-append (counted w8 key ++ to_be_bytes w64 challenge) (to_be_bytes w64 moment) in
    let e3 = length-append (counted w8 key) (to_be_bytes w64 challenge) in
    let e4 = length-append (to_be_bytes w8 (length key)) key in
    omega (arith, e1, e2, e3, e4)

caa_length : (key : List ℕ) (order : ℕ) (target : Target) (moment : ℕ) (caa : CaaSeen) → IsTarget target
    → length (caa_bytes key order target moment caa) ≡ answered_length key target caa
caa_length key order target moment caa is =
    let e1 = length-append (counted w8 key ++ to_be_bytes w64 order ++ target_bytes target ++ to_be_bytes w64 moment) (list_bytes answer_bytes caa.answers) in
    let e2 = length-append (counted w8 key ++ to_be_bytes w64 order ++ target_bytes target) (to_be_bytes w64 moment) in
    let e3 = length-append (counted w8 key ++ to_be_bytes w64 order) (target_bytes target) in
    let e4 = length-append (counted w8 key) (to_be_bytes w64 order) in
    let e5 = length-append (to_be_bytes w8 (length key)) key in
    omega (arith, e1, e2, e3, e4, e5, target_is_as_long target is)

block_size : (key spki : List ℕ) → IsBlocked key spki → 17 + (2 + 64) + length (blocked_bytes key spki) ≤ most_bytes
block_size key spki is =
    let e1 = length-append (counted w8 key) (counted w16 spki) in
    let e2 = length-append (to_be_bytes w8 (length key)) key in
    let e3 = length-append (to_be_bytes w16 (length spki)) spki in
    omega (arith, e1, e2, e3, is.0, is.1)

-- what a command writes has a spelling
written_spelled : (number : ℕ) (moment : Moment) (caller : List ℕ) (what : What) → number < 2 ^ 64 → moment.0 < 2 ^ 64 → length caller ≤ 64
    → HasCaller caller (kind_of what) → IsWhat what → 17 + (2 + 64) + length (what_bytes what) ≤ most_bytes → IsEntry (entry_with number moment caller what)
unfolding entry_bytes
written_spelled number moment caller what number_fits moment_fits caller_fits from is size = record {
  number = number_fits;
  moment = moment_fits;
  caller = omega (arith, caller_fits);
  from = from;
  what = is;
  size =
      let front = (kind_number (kind_of what) ∷ []) ++ to_be_bytes w64 number ++ to_be_bytes w64 moment.0 ++ counted w16 caller in
      let e1 = length-append front (what_bytes what) in
      let e2 = length-append (to_be_bytes w16 (length caller)) caller in
      omega (arith, size, e1, e2, caller_fits);
}

of_what : (number : ℕ) (moment : Moment) (caller : Caller) (what : Option What) → IfSome (option_map (entry_with number moment caller.id) what) (λ e. IsWhat e.what)
    → IfSome what IsWhat
of_what number moment caller None spelled = tt
of_what number moment caller (Some what) spelled = spelled

pub ordered : (key : List ℕ) (days : ℕ) (targets : List Target) (request : List ℕ) → IsAskedOrder key targets request → days < 2 ^ 16 → IsOrder key days targets request
ordered key days targets request is fits = record { key_fits = is.key_fits; days_fit = fits; are_targets = is.are_targets; request_fits = is.request_fits }

pub observed : (key : List ℕ) (challenge moment : ℕ) (seen : Seen) → IsAskedObservation key seen → challenge < 2 ^ 64 → moment < 2 ^ 64
    → IsObservation key challenge moment seen
observed key challenge moment seen is challenge_fits moment_fits =
    record { key_fits = is.key_fits; challenge_fits = challenge_fits; moment_fits = moment_fits; is_seen = is.is_seen }

pub answered : (key : List ℕ) (order : ℕ) (target : Target) (moment : ℕ) (caa : CaaSeen) → AreAskedAnswers key target caa → order < 2 ^ 64 → moment < 2 ^ 64
    → IsCaa key order target moment caa
answered key order target moment caa is order_fits moment_fits =
    record { key_fits = is.key_fits; order_fits = order_fits; is_target = is.is_target; moment_fits = moment_fits; are_answers = is.are_answers }

-- what the entry says is what the command says
pub spelled_what : (number : ℕ) (moment : Moment) (caller : Caller) (command : Command) (entry : Option Entry) → entry ≡ entry_for number moment caller command
    → IfSome entry (λ e. IsWhat e.what) → IfSome (what_of command) IsWhat
spelled_what number moment caller command entry is spelled =
    of_what number moment caller (what_of command) (subst (λ (e : Option Entry). IfSome e (λ e. IsWhat e.what)) is spelled)

pub command_spelled : (number : ℕ) (moment : Moment) (caller : Caller) (command : Command) → number < 2 ^ 64 → moment.0 < 2 ^ 64
    → IsCommand command → IfSome (what_of command) IsWhat → IsCaller caller → IfSome (entry_for number moment caller command) IsEntry
command_spelled number moment caller (commands.Order key targets days common request) number_fits moment_fits is spelled from =
    let what = whats.Order key common days targets request in
    written_spelled number moment caller.id what number_fits moment_fits from tt spelled (order_size key common days targets request is)
command_spelled number moment caller (commands.Challenge key order target method) number_fits moment_fits is spelled from = tt
command_spelled number moment caller (commands.Observe key challenge at seen) number_fits moment_fits is spelled from =
    let what = whats.Observation key challenge at seen in
    written_spelled number moment caller.id what number_fits moment_fits from tt spelled (omega (arith, observation_length key challenge at seen, is.size))
command_spelled number moment caller (commands.ObserveCaa key order target at caa) number_fits moment_fits is spelled from =
    let what = whats.CaaAnswer key order target at caa in
    written_spelled number moment caller.id what number_fits moment_fits from tt spelled (omega (arith, caa_length key order target at caa is.is_target, is.size))
command_spelled number moment caller (commands.Finalize order) number_fits moment_fits is spelled from = tt
command_spelled number moment caller (commands.Block key spki) number_fits moment_fits is spelled from =
    written_spelled number moment caller.id (whats.Blocked key spki) number_fits moment_fits from tt spelled (block_size key spki is)

-- ---- what is sent and signed

numbered_size : (order : ℕ) (bytes : List ℕ) → length bytes < 2 ^ 16 → 17 + (2 + 64) + length (numbered_bytes order bytes) ≤ most_bytes
numbered_size order bytes fits =
    let e1 = length-append (to_be_bytes w64 order) (counted w16 bytes) in
    let e2 = length-append (to_be_bytes w16 (length bytes)) bytes in
    omega (arith, e1, e2, fits)

pub send_spelled : (number : ℕ) (moment : Moment) (caller : List ℕ) (order : ℕ) (body : List ℕ) → number < 2 ^ 64 → moment.0 < 2 ^ 64 → order < 2 ^ 64
    → length caller ≤ 64 → length body < 2 ^ 16 → IsEntry (entry_with number moment caller (whats.Send order body))
send_spelled number moment caller order body number_fits moment_fits order_fits from fits =
    written_spelled number moment caller (whats.Send order body) number_fits moment_fits from tt (order_fits, fits) (numbered_size order body fits)

pub signed_spelled : (number : ℕ) (moment : Moment) (caller : List ℕ) (order : ℕ) (signature : List ℕ) → number < 2 ^ 64 → moment.0 < 2 ^ 64 → order < 2 ^ 64
    → length caller ≤ 64 → length signature ≤ 1024 → IsEntry (entry_with number moment caller (whats.Signed order signature))
signed_spelled number moment caller order signature number_fits moment_fits order_fits from fits =
    let most : length signature < 2 ^ 16 = omega (arith, fits) in
    written_spelled number moment caller (whats.Signed order signature) number_fits moment_fits from tt (order_fits, most) (numbered_size order signature most)

challenge_size : (key : List ℕ) (order : ℕ) (method : Method) (target : Target) (value : Sixteen) (thumb : List ℕ)
    → IsChallenge key order method target value thumb → 17 + (2 + 64) + length (challenge_bytes key order method target value thumb) ≤ most_bytes
challenge_size key order method target value thumb is =
    let e1 = length-append (counted w8 key ++ to_be_bytes w64 order ++ (method_number method ∷ []) ++ target_bytes target ++ value.0) (counted w8 thumb) in
    let e2 = length-append (counted w8 key ++ to_be_bytes w64 order ++ (method_number method ∷ []) ++ target_bytes target) value.0 in
    let e3 = length-append (counted w8 key ++ to_be_bytes w64 order ++ (method_number method ∷ [])) (target_bytes target) in
    let e4 = length-append (counted w8 key ++ to_be_bytes w64 order) (method_number method ∷ []) in
    let e5 = length-append (counted w8 key) (to_be_bytes w64 order) in
    let e6 = length-append (to_be_bytes w8 (length key)) key in
    let e7 = length-append (to_be_bytes w8 (length thumb)) thumb in
    omega (arith, e1, e2, e3, e4, e5, e6, e7, target_size target is.is_target, is.key_fits, is.value_size, is.thumb_fits)

pub challenge_spelled : (number : ℕ) (moment : Moment) (caller key : List ℕ) (order : ℕ) (method : Method) (target : Target) (value : Sixteen) (thumb : List ℕ)
    → number < 2 ^ 64 → moment.0 < 2 ^ 64 → order < 2 ^ 64 → length caller ≤ 64 → length key < 2 ^ 8 → IsTarget target → length value.0 ≡ 16
    → length thumb < 2 ^ 8 → is_thumb_of method thumb ≡ true → IsEntry (entry_with number moment caller (whats.Challenge key order method target value thumb))
challenge_spelled number moment caller key order method target value thumb number_fits moment_fits order_fits from key_fits is value_size thumb_fits is_thumb =
    let what : IsChallenge key order method target value thumb = record {
      key_fits = key_fits;
      order_fits = order_fits;
      is_target = is;
      value_size = value_size;
      thumb_fits = thumb_fits;
      is_thumb = is_thumb;
    } in
    written_spelled number moment caller (whats.Challenge key order method target value thumb) number_fits moment_fits from tt what
    (challenge_size key order method target value thumb what)

pub settings_spelled : (number : ℕ) (moment : Moment) (bytes : List ℕ) → number < 2 ^ 64 → moment.0 < 2 ^ 64 → length bytes ≤ 1048576
    → IsEntry (settings_entry number moment bytes)
unfolding entry_bytes
settings_spelled number moment bytes number_fits moment_fits fits = record {
  number = number_fits;
  moment = moment_fits;
  caller = omega arith;
  from = refl;
  what = omega (arith, fits);
  size =
      let e1 = length-append ((1 ∷ []) ++ to_be_bytes w64 number ++ to_be_bytes w64 moment.0 ++ counted w16 []) (counted w32 bytes) in
      let e2 = length-append (to_be_bytes w32 (length bytes)) bytes in
      omega (arith, e1, e2, fits);
}
