-- The rules of a public suffix list, and the base that they give a name (publicsuffix.org/list, "Format" and "Algorithm").
use Rattle.std.specs.Prelude.{◌≡◌, ℕ, ◌+◌, ◌-◌, Bool, true, false, not, ◌&&◌, ◌||◌, ◌==◌, nat_lt, nat_eq, List, [], ◌∷◌, ◌++◌, length, drop, codes, Option, Some, None, option_map, option_and_then, Result, Ok, Err, if◌then◌else◌}
use Rattle.std.specs.List.{list_any, count_by, slice_split, starts_with, take_while}
use Rattle.std.specs.Cmp.Lexicographic.{pointwise}
use Rattle.std.specs.Str.{bytes_eq}
use Rattle.idna.specs.Uts46.{domain_to_ascii}
use Rattle.idna.specs.declared.deny_list.TheConstants.AsciiDenyList.{EMPTY}
use Rattle.gate_base.specs.declared.name.Name.{Name}
use Rattle.names_core.specs.declared.rule.Rule.{Rule}
use Rattle.names_core.specs.declared.rule.RuleKind.{RuleKind}
use Rattle.names_core.specs.declared.rule.RuleKind.TheVariants.{Plain, Wild, Exception}
use Rattle.names_core.specs.declared.rule.SuffixFault.{SuffixFault}
use Rattle.names_core.specs.declared.rule.SuffixFault.TheVariants.{Line, TooMany, NoMemory}
use Rattle.names_core.specs.declared.fault.NameFault.{NameFault}
use Rattle.names_core.specs.Name.{is_wild, name_read}

-- ---- from the text to the rules

abbrev pub is_line_feed : ℕ → Bool
is_line_feed byte = byte == 10

-- a rule ends at the first space, tab or carriage return
abbrev pub is_blank : ℕ → Bool
is_blank byte = byte == 32 || byte == 9 || byte == 13

abbrev pub rule_text : List ℕ → List ℕ
rule_text line = take_while (λ byte. not (is_blank byte)) line

-- not empty, and no comment
abbrev pub is_rule_text : List ℕ → Bool
is_rule_text text = not (length text == 0) && not (starts_with nat_eq text (codes "//"))

-- an exception begins with an exclamation mark, a rule for any one label with `*.`
abbrev pub kind_of : List ℕ → RuleKind
kind_of text = if starts_with nat_eq text (codes "!") then Exception else (if is_wild text then Wild else Plain)

abbrev pub without_mark : RuleKind → List ℕ → List ℕ
without_mark Exception text = drop 1 text
without_mark Wild text = drop 2 text
without_mark Plain text = text

-- the labels of a name without `*.`
abbrev pub plain_labels : Result Name NameFault → Option (List (List ℕ))
plain_labels (Ok name) = if name.wild then None else Some name.labels
plain_labels (Err fault) = None

-- the labels of what ToASCII (UTS 46, section 4.2) makes of a text, which has to be a name without `*.`
abbrev pub ascii_labels : List ℕ → Option (List (List ℕ))
ascii_labels text = option_and_then (λ ascii. plain_labels (name_read ascii)) (domain_to_ascii EMPTY text)

abbrev pub rule_with : RuleKind → List (List ℕ) → Rule
rule_with kind labels = record { kind = kind; labels = labels }

-- the mark, and the labels behind it
abbrev pub rule_of : List ℕ → Option Rule
rule_of text = option_map (rule_with (kind_of text)) (ascii_labels (without_mark (kind_of text) text))

abbrev pub lines_of : List ℕ → List (List ℕ)
lines_of text = slice_split is_line_feed text

-- the rule in front of others, if each is a rule
abbrev pub rule_before : ℕ → Option Rule → Result (List Rule) SuffixFault → Result (List Rule) SuffixFault
rule_before number None rules = Err (Line number)
rule_before number (Some rule) (Ok rules) = Ok (rule ∷ rules)
rule_before number (Some rule) (Err fault) = Err fault

-- the rule of a line in front of others, where it has one
abbrev pub line_before : ℕ → List ℕ → Result (List Rule) SuffixFault → Result (List Rule) SuffixFault
line_before number line rules = if is_rule_text (rule_text line) then rule_before number (rule_of (rule_text line)) rules else rules

-- the rules of lines, the first of which has this number, or the first line that is none
abbrev pub rules_from : ℕ → List (List ℕ) → Result (List Rule) SuffixFault
rules_from number [] = Ok []
rules_from number (line ∷ lines) = line_before number line (rules_from (number + 1) lines)

-- how many rules a text has
abbrev pub rule_count : List ℕ → ℕ
rule_count text = count_by (λ line. is_rule_text (rule_text line)) (lines_of text)

-- the rules of a text, or its fault: more than 16,384 are told before any line
abbrev pub rules_read : List ℕ → Result (List Rule) SuffixFault
rules_read text = if nat_lt 16384 (rule_count text) then Err TooMany else rules_from 1 (lines_of text)

-- an error is this one, or out of memory
abbrev pub TellsSuffix : {T : Type 0} → SuffixFault → Result T SuffixFault → Type 0
TellsSuffix (Line number) read = read ≡ Err (Line number)
TellsSuffix TooMany read = read ≡ Err TooMany
TellsSuffix NoMemory read = Unit {0}

-- a result is what the text's rules are, unless memory ran out
abbrev pub GivesRules : Result (List Rule) SuffixFault → Result (List Rule) SuffixFault → Type 0
GivesRules (Ok rules) read = read ≡ Ok rules
GivesRules (Err error) read = TellsSuffix error read

-- ---- from the rules to the base of a name

abbrev pub labels_eq : List (List ℕ) → List (List ℕ) → Bool
labels_eq labels others = pointwise bytes_eq labels others

abbrev pub is_exception : RuleKind → Bool
is_exception Exception = true
is_exception Wild = false
is_exception Plain = false

-- the labels are the rule's, one for one, where `*` stands for any one label
abbrev pub is_of_kind : RuleKind → List (List ℕ) → List (List ℕ) → Bool
is_of_kind Plain labels tail = labels_eq tail labels
is_of_kind Exception labels tail = labels_eq tail labels
is_of_kind Wild labels [] = false
is_of_kind Wild labels (first ∷ tail) = labels_eq tail labels

abbrev pub covers : List (List ℕ) → Rule → Bool
covers tail rule = is_of_kind rule.kind rule.labels tail

-- how many labels the longest tail that passes has
abbrev pub longest_tail : (List (List ℕ) → Bool) → List (List ℕ) → Option ℕ
longest_tail test [] = if test [] then Some 0 else None
longest_tail test (label ∷ labels) = if test (label ∷ labels) then Some (length (label ∷ labels)) else longest_tail test labels

-- a rule matches a name where the name's labels end with the rule's: how many labels the longest exception has that matches
abbrev pub longest_exception : List Rule → List (List ℕ) → Option ℕ
longest_exception rules labels = longest_tail (λ tail. list_any (λ rule. is_exception rule.kind && covers tail rule) rules) labels

-- and how many the longest other rule has
abbrev pub longest_ordinary : List Rule → List (List ℕ) → Option ℕ
longest_ordinary rules labels = longest_tail (λ tail. list_any (λ rule. not (is_exception rule.kind) && covers tail rule) rules) labels

-- an exception prevails, and its suffix is its labels without the first; otherwise the longest rule does
abbrev pub suffix_among : Option ℕ → Option ℕ → Option ℕ
suffix_among (Some count) ordinary = Some (count - 1)
suffix_among None ordinary = ordinary

abbrev pub suffix_len : List Rule → List (List ℕ) → Option ℕ
suffix_len rules labels = suffix_among (longest_exception rules labels) (longest_ordinary rules labels)

-- The base has one label more than the suffix, if the name does. That a name which no rule matches has none is this project's
-- own rule: the algorithm of the public suffix list would apply the rule `*`.
abbrev pub base_above : Option ℕ → ℕ → Option ℕ
base_above None count = None
base_above (Some suffix) count = if nat_lt suffix count then Some (suffix + 1) else None

-- how many labels the Base Domain Name has (BR 2.1.5, section 1.6.1), if there is one
abbrev pub base_len : List Rule → List (List ℕ) → Option ℕ
base_len rules labels = base_above (suffix_len rules labels) (length labels)

-- ---- in parts

-- rules that were read, in front of those that follow
abbrev pub rules_then : List Rule → Result (List Rule) SuffixFault → Result (List Rule) SuffixFault
rules_then front (Ok rules) = Ok (front ++ rules)
rules_then front (Err fault) = Err fault
