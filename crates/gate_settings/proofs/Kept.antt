-- Rules that what a file says keeps are rules that the file keeps.
use Rattle.std.proofs.Common.{◌≡◌, ℕ, List, [], ◌∷◌, Some, IsSomeAnd, subst, sym}
use Rattle.std.specs.List.{AllByRecursion}
use Rattle.gate_settings.specs.declared.document.Document.{Document}
use Rattle.gate_settings.specs.declared.rule.Rule.{Rule}
use Rattle.gate_settings.specs.declared.rule.Rule.TheVariants.{S01, S02, S03, S04, S05, S06, S07, S08, S09, S10, S11, S12}
use Rattle.gate_settings.specs.declared.rule.Broken.{Broken}
use Rattle.gate_settings.specs.declared.rule.Broken.TheVariants as broken
use Rattle.gate_settings.specs.Reading.{document_of}
use Rattle.gate_settings.specs.Rules.{Breaks, before, DocumentBreaks, IsKept, NoneBefore, NoneBroken, TellsLeast}

-- what a document breaks, its file breaks
module _ (bytes : List ℕ) (d : Document) (says : document_of bytes ≡ Some d) (first : NoneBefore (Breaks bytes) S04) where
  of_document : (P : Document → Type 0) → ¬ (P d) → ¬ (IsSomeAnd (document_of bytes) P)
  of_document P h k = h (subst (λ o. IsSomeAnd o P) says k)

  in_file : (P : Document → Type 0) → P d → IsSomeAnd (document_of bytes) P
  in_file P h = subst (λ o. IsSomeAnd o P) (sym says) h

  kept : (rule : Rule) → IsKept (DocumentBreaks d) rule → IsKept (Breaks bytes) rule
  kept S01 h = first.1.1.0
  kept S02 h = first.1.0
  kept S03 h = first.0
  kept S04 h = λ item. of_document (λ d. DocumentBreaks d S04 item) (h item)
  kept S05 h = λ item. of_document (λ d. DocumentBreaks d S05 item) (h item)
  kept S06 h = λ item. of_document (λ d. DocumentBreaks d S06 item) (h item)
  kept S07 h = λ item. of_document (λ d. DocumentBreaks d S07 item) (h item)
  kept S08 h = λ item. of_document (λ d. DocumentBreaks d S08 item) (h item)
  kept S09 h = λ item. of_document (λ d. DocumentBreaks d S09 item) (h item)
  kept S10 h = λ item. of_document (λ d. DocumentBreaks d S10 item) (h item)
  kept S11 h = λ item. of_document (λ d. DocumentBreaks d S11 item) (h item)
  kept S12 h = λ item. of_document (λ d. DocumentBreaks d S12 item) (h item)

  all_kept : (rules : List Rule) → AllByRecursion (IsKept (DocumentBreaks d)) rules → AllByRecursion (IsKept (Breaks bytes)) rules
  all_kept [] h = tt
  all_kept (rule ∷ rules) h = (kept rule h.0, all_kept rules h.1)

  breaks : (rule : Rule) (item : ℕ) → DocumentBreaks d rule item → Breaks bytes rule item
  breaks S01 item h = absurd h
  breaks S02 item h = absurd h
  breaks S03 item h = absurd h
  breaks S04 item h = in_file (λ d. DocumentBreaks d S04 item) h
  breaks S05 item h = in_file (λ d. DocumentBreaks d S05 item) h
  breaks S06 item h = in_file (λ d. DocumentBreaks d S06 item) h
  breaks S07 item h = in_file (λ d. DocumentBreaks d S07 item) h
  breaks S08 item h = in_file (λ d. DocumentBreaks d S08 item) h
  breaks S09 item h = in_file (λ d. DocumentBreaks d S09 item) h
  breaks S10 item h = in_file (λ d. DocumentBreaks d S10 item) h
  breaks S11 item h = in_file (λ d. DocumentBreaks d S11 item) h
  breaks S12 item h = in_file (λ d. DocumentBreaks d S12 item) h

  pub none_broken : NoneBroken (DocumentBreaks d) → NoneBroken (Breaks bytes)
  none_broken h = all_kept (S12 ∷ before S12) h

  pub tells_least : (fault : Broken) → TellsLeast (DocumentBreaks d) fault → TellsLeast (Breaks bytes) fault
  tells_least (broken.Rule rule item) h = (breaks rule item h.0, all_kept (before rule) h.1)
  tells_least broken.NoMemory h = tt
