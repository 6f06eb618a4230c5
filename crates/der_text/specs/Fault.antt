-- The first fault of bytes that are no DER tree, and its place: which test of which element is broken first.
-- The sections are those of X.690.
use Rattle.std.specs.Prelude.{◌≡◌, ◌≢◌, ◌⊎◌, ℕ, zero, suc, ◌<◌, ◌+◌, ◌-◌, ◌*◌, ◌%◌, List, [], ◌∷◌, ◌++◌, length, take, drop, Bool, true, false, Result, Ok, Err, nat_lt, ◌==◌, ◌||◌, if◌then◌else◌}
use Rattle.der_text.specs.declared.fault.DerKind.{DerKind}
use Rattle.der_text.specs.declared.fault.DerKind.TheVariants.{Short, LongForm, NotShortest, BadContent, TooDeep, Trailing}
use Rattle.der_text.specs.declared.fault.DerFault.{DerFault}
use Rattle.der_text.specs.declared.fault.ReadFault.{ReadFault}
use Rattle.der_text.specs.declared.fault.ReadFault.TheVariants as faults
use Rattle.der_text.specs.Content.{is_constructed, keeps_rule}
use Rattle.der_text.specs.Tree.{Node, Nodes, element, IsElement, spelling, spellings, head_length, IsInForm, AreInForm}

-- a test after another: the first broken one counts
infixl 10 ◌>>=◌
abbrev pub ◌>>=◌ : {A B : Type 0} → Result A DerKind → (A → Result B DerKind) → Result B DerKind
(Ok x) >>= f = f x
(Err kind) >>= f = Err kind

-- the element at the front of some bytes, and the bytes after it
pub record Front : Type 0 where
  pub tag : ℕ
  pub content : List ℕ
  pub after : List ℕ

-- bytes as a number, the high byte first, behind a number that stands before them
abbrev pub number_behind : ℕ → List ℕ → ℕ
number_behind n [] = n
number_behind n (b ∷ rest) = number_behind (256 * n + b) rest

-- bytes as a number, the high byte first
abbrev pub number_of : List ℕ → ℕ
number_of bytes = number_behind 0 bytes

-- some bytes begin with 0
abbrev pub begins_with_zero : List ℕ → Bool
begins_with_zero [] = false
begins_with_zero (b ∷ rest) = b == 0

-- a long form (8.1.3.5, 10.1): its length bytes are there, and it has no shorter form
unfoldable pub long_length : ℕ → List ℕ → Result (ℕ × List ℕ) DerKind
long_length count bytes =
    if nat_lt (length bytes) count then Err Short else
    if nat_lt (number_of (take count bytes)) 128 || begins_with_zero (take count bytes) then Err NotShortest else
    Ok (number_of (take count bytes), drop count bytes)

-- The length at the front: a length byte that is there, and is below 128 or, with 80 hexadecimal, the number 1 to 4
-- of further ones.
unfoldable pub length_at : List ℕ → Result (ℕ × List ℕ) DerKind
length_at [] = Err Short
length_at (first ∷ rest) =
    if nat_lt first 128 then Ok (first, rest) else
    if (first == 128) || nat_lt 132 first then Err LongForm else long_length (first - 128) rest

-- the content: it lies within the bytes, not too deep, and keeps the rule of its tag
unfoldable pub content_at : ℕ → ℕ → ℕ → List ℕ → Result Front DerKind
content_at levels tag size rest =
    if nat_lt (length rest) size then Err Short else if levels == 0 then Err TooDeep else
    if keeps_rule tag (take size rest) then Ok (record { tag = tag; content = take size rest; after = drop size rest })
    else Err BadContent

-- The tests of one element, in their order, where so many levels are left: a tag byte, a tag of one byte, the length,
-- the content. It gives the first broken one, or the element.
unfoldable pub front_of : ℕ → List ℕ → Result Front DerKind
front_of levels [] = Err Short
front_of levels (tag ∷ rest) =
    if tag % 32 == 31 then Err LongForm else do
      sized ← length_at rest
      content_at levels tag sized.0 sized.1

-- the bytes begin with the front's element, which is as it should be, and a level is left for it
pub record IsFront (levels : ℕ) (bytes : List ℕ) (front : Front) : Type 0 where
  pub spelled : bytes ≡ element front.tag front.content ++ front.after
  pub good : IsElement front.tag front.content
  pub some_levels : 0 < levels

-- behind parts in the form something stands at that place, and what begins there has the fault
pub record IsAmong (levels start : ℕ) (content : List ℕ) (HasFault : ℕ → List ℕ → Type 0) : Type 0 where
  pub before : Nodes
  pub rest : List ℕ
  pub parts : content ≡ spellings before ++ rest
  pub form : AreInForm levels before
  pub some : rest ≢ []
  pub fault : HasFault (start + length (spellings before)) rest

-- The fault of the element that begins at a place, where so many levels are left: its own, or else that of its first
-- part that has one.
unfoldable pub HasFault : ℕ → DerFault → ℕ → List ℕ → Type 0
HasFault zero fault start bytes = (front_of zero bytes ≡ Err fault.kind) × (fault.place ≡ start)
HasFault (suc levels) fault start bytes =
    ((front_of (suc levels) bytes ≡ Err fault.kind) × (fault.place ≡ start)) ⊎
    ((front : Front) × (front_of (suc levels) bytes ≡ Ok front) × (is_constructed front.tag ≡ true) ×
    IsAmong levels (start + head_length front.content) front.content (HasFault levels fault))

-- bytes stand after a tree
pub record IsTrailing (fault : DerFault) (bytes : List ℕ) : Type 0 where
  pub tree : Node
  pub rest : List ℕ
  pub parts : bytes ≡ spelling tree ++ rest
  pub form : IsInForm 32 tree
  pub some : rest ≢ []
  pub kind : fault.kind ≡ Trailing
  pub place : fault.place ≡ length (spelling tree)

-- the first fault of the bytes: that of the outermost element, or else that bytes stand after it
abbrev pub IsFirstFault : List ℕ → DerFault → Type 0
IsFirstFault bytes fault = HasFault 32 fault 0 bytes ⊎ IsTrailing fault bytes

-- a fault of the bytes is one of which this holds; out of memory may be returned at any time
abbrev pub IfDer : ReadFault → (DerFault → Type 0) → Type 0
IfDer (faults.Der fault) P = P fault
IfDer faults.NoMemory P = Unit {0}
