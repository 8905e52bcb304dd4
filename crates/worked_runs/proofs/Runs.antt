-- The worked run of a card and of its shifted twin, by computation.
-- Assumes nothing.
use Rattle.std.proofs.Common.{◌≡◌, ℕ, ◌+◌, Bool, true, ◌&&◌, List, [], ◌∷◌, ◌++◌, map, replicate, sym, refl, ap, ◌∙◌, subst}
use Rattle.std.proofs.lemmas.Bool.{and_parts}
use Rattle.settings.specs.Settings.{no_fibre, applied}
use Rattle.settings.specs.Words.{decoded, setting_of}
use Rattle.settings.specs.Questions.{refusal}
use Rattle.clusters.specs.Clusters.{cluster_runs, runs_from}
use Rattle.clusters.specs.Patterns.{belongs}
use Rattle.strips.specs.Fibre.{fibre_record, common_mode, counted_strips, suppressed_by}
use Rattle.rules.specs.Rules.{rank}
use Rattle.card_model.specs.Fibres.{for_fibres, lowest, total, in_fibre_order}
use Rattle.card_model.specs.Calls.{Call, load, clock, ask, fetch, give_back, level, reset, Answer}
use Rattle.card_model.specs.State.{CardState, fresh, off}
use Rattle.card_model.specs.Readout.{loss, with_event, lengths_of, oldest_bytes, without_event}
use Rattle.card_model.specs.Clock.{too_large, watches_after, pulses_with, standings, sought, within, within_answer, completing, records_of}
use Rattle.card_model.specs.Step.{load_step, clock_step, ask_step, fetch_step, step}
use Rattle.card_model.specs.Runs.{state_after, answers, completed, one_if_suppressed, suppressed_in}
use Rattle.card_model.specs.Twins.{Constants, TwinCall, Twins}
use Rattle.worked_runs.specs.Runs.{setting_words, Brought, sample_at, places, calls, card_line, twin_line, room, constants, and_then, spoken, answered_with, WorkedTwins}
use Rattle.worked_runs.proofs.Samples.{clock_test, clock_if}

-- ---- card and twin side by side

-- a call of both, or a Clock of each with its own samples
data Move : Type 0 where
  both : Call → Move
  each : List ℕ → List ℕ → Move

abbrev on_card : Move → Call
on_card (both c) = c
on_card (each xs ys) = clock xs

abbrev on_twin : Move → Call
on_twin (both c) = c
on_twin (each xs ys) = clock ys

abbrev move_test : CardState → CardState → Constants → Move → Bool
move_test s t c (both (load word)) = true
move_test s t c (both (clock xs)) = clock_test s t c xs xs
move_test s t c (both ask) = true
move_test s t c (both (fetch buffer)) = true
move_test s t c (both give_back) = true
move_test s t c (both (level f)) = true
move_test s t c (both reset) = true
move_test s t c (each xs ys) = clock_test s t c xs ys

move_if : (s t : CardState) (c : Constants) (m : Move) → move_test s t c m ≡ true → TwinCall s t c (on_card m) (on_twin m)
move_if s t c (both (load word)) e = refl
move_if s t c (both (clock xs)) e = clock_if s t c xs xs e
move_if s t c (both ask) e = refl
move_if s t c (both (fetch buffer)) e = refl
move_if s t c (both give_back) e = refl
move_if s t c (both (level f)) e = refl
move_if s t c (both reset) e = refl
move_if s t c (each xs ys) e = clock_if s t c xs ys e

-- both cards after some moves, how many events they completed, whether all moves passed the test, and what was answered
record Seen : Type 0 where
  card : CardState
  twin : CardState
  events : ℕ
  alike : Bool
  said : List Answer
  twin_said : List Answer

abbrev then_move : Seen → Move → Seen
then_move p m =
    record {
      card = (step rank p.card (on_card m)).next_card;
      twin = (step rank p.twin (on_twin m)).next_card;
      events = p.events + one_if_suppressed (completed p.card (on_card m));
      alike = p.alike && move_test p.card p.twin (constants p.events) m;
      said = and_then (step rank p.card (on_card m)).answer p.said;
      twin_said = and_then (step rank p.twin (on_twin m)).answer p.twin_said;
    }

abbrev seen : List Move → Seen
seen [] = record { card = fresh room; twin = fresh room; events = 0; alike = true; said = []; twin_said = [] }
seen (m ∷ ms) = then_move (seen ms) m

-- what is seen is what the two lists of calls lead to
card_is : (ms : List Move) → (seen ms).card ≡ state_after rank room (map on_card ms)
card_is [] = refl
card_is (m ∷ ms) = ap (λ (s : CardState). (step rank s (on_card m)).next_card) (card_is ms)

twin_is : (ms : List Move) → (seen ms).twin ≡ state_after rank room (map on_twin ms)
twin_is [] = refl
twin_is (m ∷ ms) = ap (λ (s : CardState). (step rank s (on_twin m)).next_card) (twin_is ms)

events_are : (ms : List Move) → (seen ms).events ≡ suppressed_in rank room (map on_card ms)
events_are [] = refl
events_are (m ∷ ms) =
    ap (λ (n : ℕ). n + one_if_suppressed (completed (seen ms).card (on_card m))) (events_are ms)
    ∙ ap (λ (s : CardState). suppressed_in rank room (map on_card ms) + one_if_suppressed (completed s (on_card m))) (card_is ms)

said_is : (ms : List Move) → (seen ms).said ≡ spoken (answers rank room (map on_card ms))
said_is [] = refl
said_is (m ∷ ms) =
    ap (λ (before : List Answer). and_then (step rank (seen ms).card (on_card m)).answer before) (said_is ms)
    ∙ ap (λ (s : CardState). and_then (step rank s (on_card m)).answer (spoken (answers rank room (map on_card ms)))) (card_is ms)

twin_said_is : (ms : List Move) → (seen ms).twin_said ≡ spoken (answers rank room (map on_twin ms))
twin_said_is [] = refl
twin_said_is (m ∷ ms) =
    ap (λ (before : List Answer). and_then (step rank (seen ms).twin (on_twin m)).answer before) (twin_said_is ms)
    ∙ ap (λ (s : CardState). and_then (step rank s (on_twin m)).answer (spoken (answers rank room (map on_twin ms)))) (twin_is ms)

-- moves that pass the test are those of twins
carried : (m : Move) (s u t v : CardState) (n k : ℕ) → s ≡ u → t ≡ v → n ≡ k
    → move_test s t (constants n) m ≡ true → move_test u v (constants k) m ≡ true
carried m s u t v n k d e f test =
    subst (λ (x : ℕ). move_test u v (constants x) m ≡ true) f
    (subst (λ (x : CardState). move_test u x (constants n) m ≡ true) e
    (subst (λ (x : CardState). move_test x t (constants n) m ≡ true) d test))

alike_twins : (ms : List Move) → (seen ms).alike ≡ true → Twins rank room constants (map on_card ms) (map on_twin ms)
alike_twins [] e = tt
alike_twins (m ∷ ms) e =
    let p = and_parts (seen ms).alike (move_test (seen ms).card (seen ms).twin (constants (seen ms).events) m) e in
    let s = state_after rank room (map on_card ms) in
    let t = state_after rank room (map on_twin ms) in
    let n = suppressed_in rank room (map on_card ms) in (
      alike_twins ms p.0,
      move_if s t (constants n) m
          (carried m (seen ms).card s (seen ms).twin t (seen ms).events n (card_is ms) (twin_is ms) (events_are ms) p.1),
    )

-- what is to be computed of moves, and what it says of the lists of calls
record Verdict : Type 0 where
  all_alike : Bool
  card_said : List Answer
  other_said : List Answer

abbrev verdict : List Move → Verdict
verdict ms = record { all_alike = (seen ms).alike; card_said = (seen ms).said; other_said = (seen ms).twin_said }

twins_by : (ms : List Move) (xs ys : List Call) → map on_card ms ≡ xs → map on_twin ms ≡ ys → (v : Verdict) → verdict ms ≡ v → v.all_alike ≡ true
    → Twins rank room constants xs ys
twins_by ms xs ys d e v f alike =
    subst (λ (l : List Call). Twins rank room constants l ys) d
    (subst (λ (l : List Call). Twins rank room constants (map on_card ms) l) e (alike_twins ms (ap (λ (w : Verdict). w.all_alike) f ∙ alike)))

said_by : (ms : List Move) (xs : List Call) → map on_card ms ≡ xs → (v : Verdict) → verdict ms ≡ v → spoken (answers rank room xs) ≡ v.card_said
said_by ms xs d v f =
    subst (λ (l : List Call). spoken (answers rank room l) ≡ v.card_said) d (sym (said_is ms) ∙ ap (λ (w : Verdict). w.card_said) f)

twin_said_by : (ms : List Move) (ys : List Call) → map on_twin ms ≡ ys → (v : Verdict) → verdict ms ≡ v → spoken (answers rank room ys) ≡ v.other_said
twin_said_by ms ys e v f =
    subst (λ (l : List Call). spoken (answers rank room l) ≡ v.other_said) e (sym (twin_said_is ms) ∙ ap (λ (w : Verdict). w.other_said) f)

-- ---- what is computed

abbrev samples : Brought → ℕ → List ℕ
samples b place = sample_at b place ∷ replicate 11 b.elsewhere

abbrev frame : Brought → Brought → List Move
frame b d = map (λ place. each (samples b place) (samples d place)) places

-- fibre 0 has a sample of each line, the other fibres have 0
abbrev ones : Move
ones = each (card_line.high ∷ replicate 11 0) (twin_line.high ∷ replicate 11 0)

abbrev zeros : Move
zeros = each (card_line.low ∷ replicate 11 0) (twin_line.low ∷ replicate 11 0)

abbrev marked : List Move
marked = replicate 68 zeros ++ replicate 2 ones

abbrev begins : List Move
begins = replicate 24 ones

abbrev moves : List Move
moves =
    both (fetch 90)
    ∷ both ask
    ∷ (frame card_line.second twin_line.second
    ++ (begins
    ++ (frame card_line.first twin_line.first ++ (begins ++ (marked ++ (marked ++ map (λ word. both (load word)) setting_words))))))

card_moves : map on_card moves ≡ calls card_line
card_moves = refl

twin_moves : map on_twin moves ≡ calls twin_line
twin_moves = refl

abbrev expected : Verdict
expected = record { all_alike = true; card_said = answered_with 100 258; other_said = answered_with 107 253 }

computed : verdict moves ≡ expected
unfolding fresh off no_fibre for_fibres lowest total in_fibre_order load_step clock_step ask_step fetch_step decoded refusal setting_of applied too_large watches_after pulses_with standings sought within within_answer completing records_of fibre_record common_mode counted_strips suppressed_by cluster_runs runs_from belongs loss with_event lengths_of oldest_bytes without_event
computed = refl

pub worked_twins : WorkedTwins
worked_twins =
    record {
      twins = twins_by moves (calls card_line) (calls twin_line) card_moves twin_moves expected computed refl;
      answered = said_by moves (calls card_line) card_moves expected computed;
      twin_answered = twin_said_by moves (calls twin_line) twin_moves expected computed;
      loss_told = (refl, refl);
    }
