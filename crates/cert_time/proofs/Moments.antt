-- A moment has one Time, and a Time is of one moment.
use Rattle.std.proofs.Common.{◌≡◌, ℕ, ◌+◌, ◌*◌, ◌/◌, ◌≤◌, List, refl, sym, ap, ◌∙◌, arith, ℤ, pos}
use Rattle.jiff_core.specs.declared.civil.date.Date.{Date}
use Rattle.jiff_core.specs.Calendar.{days_from_civil}
use Rattle.jiff_core.proofs.SignedLemmas.{signed_arith}
use Rattle.jiff_core.proofs.DateLemmas.{epoch_day_injective}
use Rattle.cert_time.specs.declared.civil.Civil.{Civil}
use Rattle.cert_time.specs.Calendar.{day_after, civil_of, seconds_of, IsReal}
use Rattle.cert_time.specs.Time.{time_with, time_of, tag_of, text_of, IsTimeText}
use Rattle.cert_time.proofs.Days.{is_day_after, year_at_most}

real_of : (moment : ℕ) → moment ≤ 253402300799 → IsReal (civil_of moment)
real_of moment low =
    let n = moment / 86400 in
    let is = is_day_after (moment / 86400) in
    let year = year_at_most (moment / 86400) (day_after (moment / 86400)) is (omega arith) in
    (((omega (arith, signed_arith), omega (arith, signed_arith)), is.month_in, is.day_in), omega arith, omega arith, omega arith)

pub is_written : (moment : ℕ) → moment ≤ 253402300799 → IsTimeText (tag_of (time_of moment)) (text_of (time_of moment)) (pos moment)
is_written moment low =
    let is = is_day_after (moment / 86400) in
    record {
      civil = civil_of moment;
      real = real_of moment low;
      written = record { years = omega (arith, is.year_from); tagged = refl; spelled = refl };
      passed = rw is.numbered (omega (arith, signed_arith));
    }

date_of : (c : Civil) → IsReal c → Date
date_of c real = record { year = pos c.year; month = c.month; day = c.day; year_in = real.0.0; month_in = real.0.1; day_in = real.0.2 }

same_parts : (a b : Civil) → a.year ≡ b.year → a.month ≡ b.month → a.day ≡ b.day → a.hour ≡ b.hour → a.minute ≡ b.minute → a.second ≡ b.second → a ≡ b
same_parts a b year month day hour minute second =
    let same : record { year = a.year; month = a.month; day = a.day; hour = a.hour; minute = a.minute; second = a.second } ≡ b = rw (year, month, day, hour, minute, second) refl in
    same

pub same_civil : (a b : Civil) → IsReal a → IsReal b → seconds_of a ≡ seconds_of b → a ≡ b
unfolding date_of
same_civil a b real real' e =
    let days : days_from_civil (pos a.year) a.month a.day ≡ days_from_civil (pos b.year) b.month b.day = omega (arith, signed_arith, e) in
    let time : a.hour * 3600 + a.minute * 60 + a.second ≡ b.hour * 3600 + b.minute * 60 + b.second = omega (arith, signed_arith, e, days) in
    let date = epoch_day_injective (date_of a real) (date_of b real') days in
    let year : a.year ≡ b.year = omega (arith, signed_arith, date.0) in
    let hour : a.hour ≡ b.hour = omega arith in
    let minute : a.minute ≡ b.minute = omega arith in
    let second : a.second ≡ b.second = omega arith in
    same_parts a b year date.1 date.2 hour minute second

pub one_text : (tag tag' : ℕ) (content content' : List ℕ) (seconds : ℤ) → IsTimeText tag content seconds → IsTimeText tag' content' seconds → (tag ≡ tag') × (content ≡ content')
one_text tag tag' content content' seconds a b =
    let same = same_civil a.civil b.civil a.real b.real (sym a.passed ∙ b.passed) in (
      a.written.tagged ∙ ap (λ (c : Civil). tag_of (time_with c)) same ∙ sym b.written.tagged,
      a.written.spelled ∙ ap (λ (c : Civil). text_of (time_with c)) same ∙ sym b.written.spelled,
    )
