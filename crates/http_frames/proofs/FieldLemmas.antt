-- Fields that are looked through one after another.
use Rattle.std.proofs.Common.{◌≡◌, ℕ, false, List, ◌∷◌, map, refl, ap, ◌∙◌}
use Rattle.httparse.specs.Spans.{header_bytes}
use Rattle.httparse.specs.declared.spans.HeaderSpan.{HeaderSpan}
use Rattle.http_frames.specs.Fields.{Fields, has_name, first_value, differs, some_differs, agrees, some_agrees}

module _ (head name value : List ℕ) (headers rest later : List HeaderSpan) (header : HeaderSpan) (whole : rest ≡ header ∷ later) where
  passed : {A : Type 0} (read : Fields → A) → read (map (header_bytes head) (header ∷ later)) ≡ read (map (header_bytes head) later)
      → read (map (header_bytes head) headers) ≡ read (map (header_bytes head) rest) → read (map (header_bytes head) headers) ≡ read (map (header_bytes head) later)
  passed read step same = same ∙ ap (λ (l : List HeaderSpan). read (map (header_bytes head) l)) whole ∙ step

  pub first_later : has_name name (header_bytes head header) ≡ false
      → first_value name (map (header_bytes head) headers) ≡ first_value name (map (header_bytes head) rest)
      → first_value name (map (header_bytes head) headers) ≡ first_value name (map (header_bytes head) later)
  first_later other same = passed (first_value name) (rw other refl) same

  pub differs_later : differs name value (header_bytes head header) ≡ false
      → some_differs name value (map (header_bytes head) headers) ≡ some_differs name value (map (header_bytes head) rest)
      → some_differs name value (map (header_bytes head) headers) ≡ some_differs name value (map (header_bytes head) later)
  differs_later other same = passed (some_differs name value) (rw other refl) same

  pub agrees_later : agrees name value (header_bytes head header) ≡ false
      → some_agrees name value (map (header_bytes head) headers) ≡ some_agrees name value (map (header_bytes head) rest)
      → some_agrees name value (map (header_bytes head) headers) ≡ some_agrees name value (map (header_bytes head) later)
  agrees_later other same = passed (some_agrees name value) (rw other refl) same
