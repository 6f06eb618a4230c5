-- Words are asked for as one thing only.
use Rattle.std.proofs.Common.{ℕ, List}
use Rattle.gate_server.specs.declared.running.Word.{Word}
use Rattle.gate_server.specs.declared.running.Word.TheVariants as asked
use Rattle.gate_server.specs.Run.{IsWord}

-- what holds of the word session holds of each word that these are
pub as_session : (Holds : Word → Type 0) (words : List (List ℕ)) (word : Word) → IsWord words asked.Session → IsWord words word → Holds asked.Session → Holds word
as_session Holds words asked.Begin session is holds = cc (session, is)
as_session Holds words asked.Session session is holds = holds
as_session Holds words asked.Other session is holds = absurd (is.1 session)

pub as_other : (Holds : Word → Type 0) (words : List (List ℕ)) (word : Word) → IsWord words asked.Other → IsWord words word → Holds asked.Other → Holds word
as_other Holds words asked.Begin other is holds = absurd (other.0 is)
as_other Holds words asked.Session other is holds = absurd (other.1 is)
as_other Holds words asked.Other other is holds = holds
