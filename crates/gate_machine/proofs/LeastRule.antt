-- The least rule that an order breaks.
use Rattle.std.proofs.Common.{◌≡◌, ◌≢◌, ℕ, ◌<◌, ◌≤◌, Bool, true, false, List, length, Option, Some, None, refl, sym, ap, subst, ◌∙◌, inl, inr, arith}
use Rattle.std.specs.Option.{is_some}
use Rattle.std.specs.Prelude.{Result, Ok, Err, IfOk}
use Rattle.gate_base.specs.declared.memory.NoMemory.{NoMemory}
use Rattle.gate_base.specs.declared.name.Target.{Target}
use Rattle.csr10.specs.declared.fault.CsrFault.{CsrFault}
use Rattle.csr10.specs.declared.fault.CsrFault.TheVariants as requests
use Rattle.csr10.specs.Csr.{Fields, IsCsr, IsFirstFault}
use Rattle.gate_machine.specs.Commands.Order.{NamesBreak, rule_of, HasFault, IsOther, RequestBreaks, OrderBreaks}
use Rattle.gate_machine.specs.Rules.{HasBadKey, IsLeast, TellsLeast}

-- ---- which numbers the rules have

names_range : (common : Bool) (days : ℕ) (targets : List Target) (rule : ℕ) → NamesBreak common days targets rule → (2 ≤ rule) × (rule ≤ 5)
names_range common days targets rule breaks = elim breaks [
  | inl count ↦ (omega (arith, count.0), omega (arith, count.0))
  | inr others ↦ elim others [
    | inl twice ↦ (omega (arith, twice.0), omega (arith, twice.0))
    | inr more ↦ elim more [
      | inl days_are ↦ (omega (arith, days_are.0), omega (arith, days_are.0))
      | inr first ↦ (omega (arith, first.0), omega (arith, first.0))
    ]
  ]
]

some_is : {A : Type 0} {x y : A} → Some x ≡ Some y → x ≡ y
some_is is = cc is

none_some : {A : Type 0} {x : A} → None ≡ Some x → ⊥
none_some is = cc is

fault_from_7 : (fault : CsrFault) (rule : ℕ) → rule_of fault ≡ Some rule → 7 ≤ rule
fault_from_7 (requests.Der fault) rule is = omega (arith, some_is is)
fault_from_7 requests.Shape rule is = omega (arith, some_is is)
fault_from_7 requests.Version rule is = omega (arith, some_is is)
fault_from_7 requests.Key rule is = omega (arith, some_is is)
fault_from_7 requests.SanTwice rule is = omega (arith, some_is is)
fault_from_7 (requests.SanName place) rule is = omega (arith, some_is is)
fault_from_7 requests.NoMemory rule is = absurd (none_some is)

request_from_7 : (request : List ℕ) (targets : List Target) (rule : ℕ) → RequestBreaks request targets rule → 7 ≤ rule
request_from_7 request targets rule breaks = elim breaks [
  | inl fault ↦ fault_from_7 fault.fault rule fault.number
  | inr other ↦ omega (arith, other.0)
]

-- ---- orders

pub none_broken : (breaks : ℕ → Type 0) (told : Option ℕ) → is_some told ≡ false → TellsLeast breaks told → (rule : ℕ) → ¬ (breaks rule)
none_broken breaks None none tells = tells
none_broken breaks (Some rule) none tells = absurd cc

module _ (key : List ℕ) (common : Bool) (days : ℕ) (targets : List Target) (request : List ℕ) where
  -- each broken rule is one of four kinds, and the later ones have greater numbers
  pub key_is_least : HasBadKey key → IsLeast (OrderBreaks key common days targets request) 1
  key_is_least bad = record {
    broken = inl (refl, bad);
    least = λ other breaks. elim breaks [
      | inl first ↦ omega (arith, first.0)
      | inr others ↦ elim others [
        | inl names ↦ (let range = names_range common days targets other names in omega (arith, range.0))
        | inr more ↦ elim more [
          | inl long ↦ omega (arith, long.0)
          | inr asked ↦ (let range = request_from_7 request targets other asked in omega (arith, range))
        ]
      ]
    ];
  }

  names_are_least : ¬ (HasBadKey key) → (rule : ℕ) → IsLeast (NamesBreak common days targets) rule → IsLeast (OrderBreaks key common days targets request) rule
  names_are_least good rule least = record {
    broken = inr (inl least.broken);
    least = λ other breaks. elim breaks [
      | inl first ↦ absurd (good first.1)
      | inr others ↦ elim others [
        | inl names ↦ least.least other names
        | inr more ↦ (
            let own = names_range common days targets rule least.broken in
            elim more [
              | inl long ↦ omega (arith, long.0, own.1)
              | inr asked ↦ (let range = request_from_7 request targets other asked in omega (arith, range, own.1))
            ]
            )
      ]
    ];
  }

  pub names_tell : ¬ (HasBadKey key) → (told : Option ℕ) → is_some told ≡ true → TellsLeast (NamesBreak common days targets) told
      → TellsLeast (OrderBreaks key common days targets request) told
  names_tell good None some tells = absurd cc
  names_tell good (Some rule) some tells = names_are_least good rule tells

  pub long_is_least : ¬ (HasBadKey key) → ((rule : ℕ) → ¬ (NamesBreak common days targets rule)) → 16384 < length request
      → IsLeast (OrderBreaks key common days targets request) 6
  long_is_least good named long = record {
    broken = inr (inr (inl (refl, long)));
    least = λ other breaks. elim breaks [
      | inl first ↦ absurd (good first.1)
      | inr others ↦ elim others [
        | inl names ↦ absurd (named other names)
        | inr more ↦ elim more [
          | inl too_long ↦ omega (arith, too_long.0)
          | inr asked ↦ (let range = request_from_7 request targets other asked in omega (arith, range))
        ]
      ]
    ];
  }

  asked_alone : ¬ (HasBadKey key) → ((rule : ℕ) → ¬ (NamesBreak common days targets rule)) → ¬ (16384 < length request) → (rule : ℕ)
      → OrderBreaks key common days targets request rule → RequestBreaks request targets rule
  asked_alone good named short rule breaks = elim breaks [
    | inl first ↦ absurd (good first.1)
    | inr others ↦ elim others [
      | inl names ↦ absurd (named rule names)
      | inr more ↦ elim more [
        | inl long ↦ absurd (short long.1)
        | inr asked ↦ asked
      ]
    ]
  ]

  request_is_least : ¬ (HasBadKey key) → ((rule : ℕ) → ¬ (NamesBreak common days targets rule)) → ¬ (16384 < length request) → (told : Option ℕ)
      → TellsLeast (RequestBreaks request targets) told → TellsLeast (OrderBreaks key common days targets request) told
  request_is_least good named short None tells = λ rule breaks. tells rule (asked_alone good named short rule breaks)
  request_is_least good named short (Some rule) tells = record {
    broken = inr (inr (inr tells.broken));
    least = λ other breaks. tells.least other (asked_alone good named short other breaks);
  }

  pub request_tells : ¬ (HasBadKey key) → ((rule : ℕ) → ¬ (NamesBreak common days targets rule)) → ¬ (16384 < length request)
      → (told : Result (Option ℕ) NoMemory) → IfOk told (TellsLeast (RequestBreaks request targets))
      → IfOk told (TellsLeast (OrderBreaks key common days targets request))
  request_tells good named short (Ok told) tells = request_is_least good named short told tells
  request_tells good named short (Err error) tells = tt

-- ---- requests

-- a first fault that breaks no rule is out of memory
pub unruled : (request : List ℕ) (fault : CsrFault) → IsFirstFault request fault → ((rule : ℕ) → ¬ (HasFault request rule)) → rule_of fault ≡ None
unruled request (requests.Der fault) first kept = absurd (kept 7 (record { fault = requests.Der fault; first = first; number = refl }))
unruled request requests.Shape first kept = absurd (kept 8 (record { fault = requests.Shape; first = first; number = refl }))
unruled request requests.Version first kept = absurd (kept 9 (record { fault = requests.Version; first = first; number = refl }))
unruled request requests.Key first kept = absurd (kept 10 (record { fault = requests.Key; first = first; number = refl }))
unruled request requests.SanTwice first kept = absurd (kept 11 (record { fault = requests.SanTwice; first = first; number = refl }))
unruled request (requests.SanName place) first kept = absurd (kept 12 (record { fault = requests.SanName place; first = first; number = refl }))
unruled request requests.NoMemory first kept = refl

module _ (request : List ℕ) (targets : List Target)
    (one_fields : (fields other : Fields) → IsCsr request fields → IsCsr request other → fields ≡ other)
    (faultless : (fields : Fields) (fault : CsrFault) → IsCsr request fields → IsFirstFault request fault → fault ≡ requests.NoMemory)
    (one_fault : (fault other : CsrFault) → fault ≢ requests.NoMemory → other ≢ requests.NoMemory → IsFirstFault request fault → IsFirstFault request other
    → fault ≡ other)
  where
    is_fault : (fault : CsrFault) (rule : ℕ) → rule_of fault ≡ Some rule → fault ≢ requests.NoMemory
    is_fault fault rule number is = none_some (ap rule_of (sym is) ∙ number)

    no_fault : (fields : Fields) → IsCsr request fields → (rule : ℕ) → ¬ (HasFault request rule)
    no_fault fields is rule fault = is_fault fault.fault rule fault.number (faultless fields fault.fault is fault.first)

    -- of a request with these fields the names alone are judged
    other_alone : (fields : Fields) → IsCsr request fields → (rule : ℕ) → RequestBreaks request targets rule → (rule ≡ 13) × IsOther fields.san targets
    other_alone fields is rule breaks = elim breaks [
      | inl fault ↦ absurd (no_fault fields is rule fault)
      | inr other ↦ (other.0, subst (λ (f : Fields). IsOther f.san targets) (one_fields other.1.fields fields other.1.is is) other.1.other)
    ]

    pub san_tells : (fields : Fields) → IsCsr request fields → (told : Option ℕ) → TellsLeast (λ rule. (rule ≡ 13) × IsOther fields.san targets) told
        → TellsLeast (RequestBreaks request targets) told
    san_tells fields is None tells = λ rule breaks. tells rule (other_alone fields is rule breaks)
    san_tells fields is (Some rule) tells = record {
      broken = inr (tells.broken.0, record { fields = fields; is = is; other = tells.broken.1 });
      least = λ other breaks. tells.least other (other_alone fields is other breaks);
    }

    pub fault_tells : (fault : CsrFault) → IsFirstFault request fault → (told : Option ℕ) → told ≡ rule_of fault → (told ≡ None → ⊥)
        → TellsLeast (RequestBreaks request targets) told
    fault_tells fault first None is some = absurd (some refl)
    fault_tells fault first (Some rule) is some = record {
      broken = inl (record { fault = fault; first = first; number = sym is });
      least = λ other breaks. elim breaks [
        | inl has ↦ (
            let same = one_fault fault has.fault (is_fault fault rule (sym is)) (is_fault has.fault other has.number) first has.first in
            let numbers : Some rule ≡ Some other = is ∙ ap rule_of same ∙ has.number in
            omega (arith, some_is numbers)
            )
        | inr names ↦ absurd (is_fault fault rule (sym is) (faultless names.1.fields fault names.1.is first))
      ];
    }

    -- a key is that of the fields
    pub one_key : (fields : Fields) → IsCsr request fields → (other : Fields) → IsCsr request other → other.spki ≡ fields.spki
    one_key fields is other is_other = ap (λ (f : Fields). f.spki) (one_fields other fields is_other is)
