-- Lists of bytes that are the same, and the retry keys of callers.
use Rattle.std.specs.Prelude.{ℕ, List, Bool, false, ◌&&◌, nat_eq, Option, Some, None, find}
use Rattle.std.specs.Cmp.Lexicographic.{pointwise}
use Rattle.gate_entries.specs.declared.entry.Entry.{Entry}
use Rattle.gate_entries.specs.Command.{key_of}

abbrev pub is_same : List ℕ → List ℕ → Bool
is_same left right = pointwise nat_eq left right

-- whether a content stands under this retry key
abbrev pub is_same_key : Option (List ℕ) → List ℕ → Bool
is_same_key (Some other) key = is_same other key
is_same_key None key = false

-- whether an entry stands under this caller's key
abbrev pub is_under : List ℕ → List ℕ → Entry → Bool
is_under caller key entry = is_same entry.caller caller && is_same_key (key_of entry.what) key

-- the entry that stands under the caller's key
abbrev pub kept_for : List ℕ → List ℕ → List Entry → Option Entry
kept_for caller key history = find (is_under caller key) history
