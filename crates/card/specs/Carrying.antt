-- A list of calls that is carried out on a card, and the row of its answers.
-- Assumes nothing.
use Rattle.std.specs.Prelude.{◌≡◌, ℕ, ◌+◌, ◌≤◌, min, cond, List, [], ◌∷◌, map, reverse, length, take, drop, Some, None, Ok, Err, sum_by, Option, Result, nat_le}
use Rattle.terms.specs.declared.refusal.Refusal.{Refusal}
use Rattle.terms.specs.declared.refusal.Refusal.TheVariants.{BufferTooShort}
use Rattle.rules.specs.Rules.{Meaning}
use Rattle.card_model.specs.Calls as model
use Rattle.card_model.specs.State.{CardState}
use Rattle.card_model.specs.Step.{step}
use Rattle.card_model.specs.Runs as runs
use Rattle.card.specs.declared.call.Call.{Call}
use Rattle.card.specs.declared.call.Call.TheVariants as calls
use Rattle.card.specs.declared.answer.Answer.{Answer}
use Rattle.card.specs.declared.answer.Answer.TheVariants as answers
use Rattle.card.specs.declared.slip.Refused.{Refused}
use Rattle.card.specs.Steps.{Stepped, said_clocked}

-- a call of the card's definition
abbrev pub call_of : Call → model.Call
call_of (calls.Load word) = model.load word
call_of (calls.Clock samples) = model.clock samples
call_of calls.Ask = model.ask
call_of (calls.Fetch long) = model.fetch long
call_of calls.GiveBack = model.give_back
call_of (calls.Level fibre) = model.level fibre
call_of calls.Reset = model.reset

-- what a call is answered: its answer, or why it was refused
abbrev pub Reply : Type 0
Reply = Result Answer Refusal

-- an answer of the card's definition, where fetched bytes lie in a buffer
abbrev pub answer_of : List ℕ → Reply → model.Answer
answer_of bytes (Ok answers.Taken) = model.plain model.taken
answer_of bytes (Ok (answers.Clocked c)) = said_clocked c
answer_of bytes (Ok (answers.Slip n)) = model.plain (model.slip n)
answer_of bytes (Ok (answers.Fetched at n)) = model.fetched (take n (drop at bytes))
answer_of bytes (Ok answers.GivenBack) = model.plain model.given_back
answer_of bytes (Ok (answers.Level n)) = model.plain (model.level_is n)
answer_of bytes (Ok answers.WasReset) = model.was_reset
answer_of bytes (Err e) = model.plain (model.refused e)

-- what a Fetch into a buffer from a place on returned, as an answer
abbrev pub fetch_answer : Result ℕ Refused → ℕ → Reply
fetch_answer (Ok n) at = Ok (answers.Fetched at n)
fetch_answer (Err r) at = Err r.refusal

-- how many bytes of the buffer a call is lent: those of a Fetch
abbrev pub lent_to : Call → ℕ
lent_to (calls.Load word) = 0
lent_to (calls.Clock samples) = 0
lent_to calls.Ask = 0
lent_to (calls.Fetch long) = long
lent_to calls.GiveBack = 0
lent_to (calls.Level fibre) = 0
lent_to calls.Reset = 0

-- the calls of a list, the newest first
abbrev pub newest_first : List Call → List model.Call
newest_first cs = reverse (map call_of cs)

-- the card after a list of calls from any state, the newest first
abbrev pub state_from : Meaning → CardState → List model.Call → CardState
state_from meaning s [] = s
state_from meaning s (c ∷ h) = (step meaning (state_from meaning s h) c).next_card

-- what each of these calls is answered, the newest first
abbrev pub answers_from : Meaning → CardState → List model.Call → List model.Answer
answers_from meaning s [] = []
answers_from meaning s (c ∷ h) = (step meaning (state_from meaning s h) c).answer ∷ answers_from meaning s h

-- how many bytes a list of calls is lent together
abbrev pub lent_in : List Call → ℕ
lent_in cs = sum_by lent_to cs

-- the largest number that a usize can hold
abbrev pub largest_count : ℕ
largest_count = 18446744073709551615

-- a number, where a usize can hold it
abbrev pub counted : ℕ → Option ℕ
counted n = cond (nat_le n largest_count) (Some n) None

-- the questions about a list of calls: is the row of answers long enough? 11, with the number of calls. Is the buffer as long as
-- all Fetches are lent together? 11, with that length, one above the largest number as that
abbrev pub bytes_question : ℕ → ℕ → Result (Unit {0}) Refusal
bytes_question lent long = cond (nat_le lent long) (Ok tt) (Err (BufferTooShort (min lent largest_count)))

abbrev pub carry_questions : List Call → ℕ → ℕ → Result (Unit {0}) Refusal
carry_questions cs row long = cond (nat_le (length cs) row) (bytes_question (lent_in cs) long) (Err (BufferTooShort (length cs)))

-- the bytes of a Fetch lie between two places of the buffer
abbrev pub LiesWithin : ℕ → ℕ → Reply → Type 0
LiesWithin from to (Ok answers.Taken) = Unit {0}
LiesWithin from to (Ok (answers.Clocked c)) = Unit {0}
LiesWithin from to (Ok (answers.Slip n)) = Unit {0}
LiesWithin from to (Ok (answers.Fetched at n)) = (from ≤ at) × (at + n ≤ to)
LiesWithin from to (Ok answers.GivenBack) = Unit {0}
LiesWithin from to (Ok (answers.Level n)) = Unit {0}
LiesWithin from to (Ok answers.WasReset) = Unit {0}
LiesWithin from to (Err e) = Unit {0}

-- a call was carried out that is lent the buffer from a place on: the card went on by the definition, the answer is the
-- definition's, what a Fetch gave lies in what it was lent, and no other byte of the buffer has changed
pub record Answered (meaning : Meaning) (before : CardState) (call : Call) (at : ℕ) (bytes : List ℕ) (after : CardState) (answer : Reply) (bytes' : List ℕ) : Type 0 where
  pub step : Stepped meaning before (call_of call) after (answer_of bytes' answer)
  pub lies : LiesWithin at (at + lent_to call) answer
  pub earlier : take at bytes' ≡ take at bytes
  pub later : drop (at + lent_to call) bytes' ≡ drop (at + lent_to call) bytes

-- a list of calls was carried out: the card and the answers are the definition's, and no later answer and no later byte has changed
pub record Carried (meaning : Meaning) (before : CardState) (cs : List Call) (row : List Reply) (bytes : List ℕ) (after : CardState) (row' : List Reply) (bytes' : List ℕ) : Type 0 where
  pub state : after ≡ state_from meaning before (newest_first cs)
  pub says : reverse (map (answer_of bytes') (take (length cs) row')) ≡ answers_from meaning before (newest_first cs)
  pub later_answers : drop (length cs) row' ≡ drop (length cs) row
  pub later_bytes : drop (lent_in cs) bytes' ≡ drop (lent_in cs) bytes

-- a refusal changed nothing
pub record Untouched (before : CardState) (row : List Reply) (bytes : List ℕ) (after : CardState) (row' : List Reply) (bytes' : List ℕ) : Type 0 where
  pub state : after ≡ before
  pub answers : row' ≡ row
  pub buffer : bytes' ≡ bytes

-- what became of a list of calls, by what its carrying out returned
abbrev pub CarriedOut : Meaning → CardState → List Call → List Reply → List ℕ → CardState → List Reply → List ℕ → Result (Unit {0}) Refusal → Type 0
CarriedOut meaning before cs row bytes after row' bytes' (Ok x) = Carried meaning before cs row bytes after row' bytes'
CarriedOut meaning before cs row bytes after row' bytes' (Err e) = Untouched before row bytes after row' bytes'

-- a list of calls was carried out on a new card
pub record RunThrough (meaning : Meaning) (room : ℕ) (cs : List Call) (row : List Reply) (bytes : List ℕ) (row' : List Reply) (bytes' : List ℕ) : Type 0 where
  pub says : reverse (map (answer_of bytes') (take (length cs) row')) ≡ runs.answers meaning room (newest_first cs)
  pub later_answers : drop (length cs) row' ≡ drop (length cs) row
  pub later_bytes : drop (lent_in cs) bytes' ≡ drop (lent_in cs) bytes

-- what became of it, by what the run returned
abbrev pub RunOut : Meaning → ℕ → List Call → List Reply → List ℕ → List Reply → List ℕ → Result (Unit {0}) Refusal → Type 0
RunOut meaning room cs row bytes row' bytes' (Ok x) = RunThrough meaning room cs row bytes row' bytes'
RunOut meaning room cs row bytes row' bytes' (Err e) = (row' ≡ row) × (bytes' ≡ bytes)
