-- How a table of refusals is written in its order: by what a look-up found, by a test, and by what a relation tells.
use Rattle.std.specs.Prelude.{◌≡◌, ◌⊎◌, Option, Some, None}

-- it is this
abbrev pub Is : {R : Type 0} → R → R → Type 0
Is that this = this ≡ that

-- by cases on what was found: nothing, or something
abbrev pub Case : {A R : Type 0} → Option A → (R → Type 0) → (A → R → Type 0) → R → Type 0
Case {A} found none some this = ((found ≡ None) × none this) ⊎ ((x : A) × (found ≡ Some x) × some x this)

-- where this holds, and where it doesn't
abbrev pub Test : {R : Type 0} → Type 0 → (R → Type 0) → (R → Type 0) → R → Type 0
Test holds first second this = (holds × first this) ⊎ ((¬ holds) × second this)

-- with what a relation tells
abbrev pub With : {A R : Type 0} → (A → Type 0) → (A → R → Type 0) → R → Type 0
With {A} tells after this = (x : A) × tells x × after x this
