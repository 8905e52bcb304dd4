-- Bytes balance: what was announced is what was fetched and what waits.
-- Assumes nothing.
use Rattle.std.proofs.Common.{◌≡◌, ℕ, ◌+◌, List, [], ◌∷◌, length, drop, sym, refl, ap, ◌∙◌, arith}
use Rattle.rules.specs.Rules.{Meaning}
use Rattle.card_model.specs.Calls.{Call, Answer, kept, fetched, was_reset, plain}
use Rattle.card_model.specs.Readout.{record_of}
use Rattle.card_model.specs.Runs.{state_after, answer_after, answers, moved, records_by, records_waiting}
use Rattle.card_model.specs.Laws.{announced, fetched_since, levels, BytesBalance}
use Rattle.card_model.proofs.Fibres.{length_in_order, total_zero}
use Rattle.card_model.proofs.Readout.{size, size_is, sizes, sizes_push, oldest_of, levels_are}
use Rattle.card_model.proofs.Sound.{Tells, run_holds, run_tells}

-- the oldest event and the others
sizes_front : (es : List (List (List ℕ))) → sizes es ≡ size (oldest_of es) + sizes (drop 1 es)
sizes_front [] = omega (arith, size_is [], total_zero (λ f. 0) (λ f below. refl))
sizes_front (e ∷ es) = refl

-- one more answer
balanced : (e : List (List ℕ)) (es : List (List (List ℕ))) (a : Answer) (before : List Answer) → Tells e es a
    → announced before ≡ fetched_since before + sizes es → announced (a ∷ before) ≡ fetched_since (a ∷ before) + sizes (moved e a es)
balanced e es (kept n) before t b = omega (arith, sizes_push es e)
balanced e es (fetched bytes) before t b =
    let long : length bytes ≡ size (oldest_of es) = ap length t ∙ (length_in_order (record_of (oldest_of es)) ∙ sym (size_is (oldest_of es))) in
    omega (arith, sizes_front es)
balanced e es was_reset before t b = refl
balanced e es (plain p) before t b = b

sizes_balance : (meaning : Meaning) (room : ℕ) (calls : List Call)
    → announced (answers meaning room calls) ≡ fetched_since (answers meaning room calls) + sizes (records_waiting meaning room calls)
sizes_balance meaning room [] = refl
sizes_balance meaning room (c ∷ h) =
    balanced (records_by meaning (state_after meaning room h) c) (records_waiting meaning room h) (answer_after meaning room h c) (answers meaning room h)
    (run_tells meaning room h c) (sizes_balance meaning room h)

pub bytes_balance : (meaning : Meaning) (room : ℕ) (calls : List Call) → BytesBalance meaning room calls
bytes_balance meaning room calls =
    let e : levels (state_after meaning room calls) ≡ sizes (records_waiting meaning room calls) =
    levels_are room (records_waiting meaning room calls) (state_after meaning room calls).readout (run_holds meaning room calls)
    in
    sizes_balance meaning room calls ∙ ap (λ (n : ℕ). fetched_since (answers meaning room calls) + n) (sym e)
