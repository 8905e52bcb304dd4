-- The events that wait in a card and in its twin: of one length record by record, and shifted or equal.
-- Assumes nothing.
use Rattle.std.proofs.Common.{◌≡◌, ℕ, ◌+◌, ◌-◌, ◌<◌, cond, ltb, leb, List, [], ◌∷◌, ◌++◌, map, length, get_or, drop, Some, None, Option, sym, refl, ap, ◌∙◌, ap₂, arith}
use mathlib.Core.Path.{subst⁻¹}
use native.Mathlib.Nat.{mod-add-div}
use Rattle.std.proofs.lemmas.List.{length-append}
use Rattle.rules.specs.Rules.{Meaning, ShiftLaw}
use Rattle.stores.specs.Store.{level_of}
use Rattle.settings.specs.declared.card.CardSettings.{CardSettings}
use Rattle.settings.specs.declared.fibre.FibreSettings.{FibreSettings}
use Rattle.settings.specs.declared.mode.Mode.{Mode}
use Rattle.settings.specs.declared.mode.Mode.TheVariants.{ZeroSuppression, ProcessedRaw, VirginRaw}
use Rattle.settings.specs.Settings.{of_fibre}
use Rattle.layout.specs.declared.kind.Kind.{Kind}
use Rattle.layout.specs.Event.{Content, content_bytes, record_bytes}
use Rattle.strips.specs.Fibre.{fibre_record, kind_in, content_in}
use Rattle.strips.specs.Laws.{ShiftedFibre, ShiftedRecord, ShiftsRecords, RanksFit, number_at}
use Rattle.card_model.specs.Fibres.{for_fibres, in_fibre_order}
use Rattle.card_model.specs.Calls.{Answer, kept, fetched, was_reset, plain, too_many}
use Rattle.card_model.specs.State.{Readout}
use Rattle.card_model.specs.Readout.{record_of, lengths_of, most_events, exceeds, lacking, loss, oldest_bytes}
use Rattle.card_model.specs.Clock.{row, records_of}
use Rattle.card_model.specs.Runs.{moved}
use Rattle.card_model.specs.Laws.{IsKept}
use Rattle.card_model.specs.Twins.{Constants, BytesAlike, Alike, constants_in}
use Rattle.card_model.proofs.Fibres.{get_or_for, for_same, in_order_same, lowest_same}
use Rattle.card_model.specs.Waiting.{stacked}
use Rattle.card_model.proofs.Readout.{Holds, oldest_of, gives_oldest}

-- ---- one event

-- each record opens with its own length
abbrev pub Opens : List (List ℕ) → Type 0
Opens e = (f : ℕ) → f < 12 → number_at (record_of e f) 0 ≡ length (record_of e f)

-- an event in the card and in the twin, by its constants, which a raw one has none of
abbrev pub EventAlike : Option Constants → List (List ℕ) → List (List ℕ) → Type 0
EventAlike None e d = (f : ℕ) → f < 12 → record_of d f ≡ record_of e f
EventAlike (Some c) e d = Opens e × ((f : ℕ) → f < 12 → ShiftedRecord (c f) (record_of e f) (record_of d f))

-- its records are as long in both
abbrev pub AsLong : List (List ℕ) → List (List ℕ) → Type 0
AsLong e d = (f : ℕ) → f < 12 → length (record_of d f) ≡ length (record_of e f)

pub as_long : (k : Option Constants) (e d : List (List ℕ)) → EventAlike k e d → AsLong e d
as_long None e d a f below = ap length (a f below)
as_long (Some c) e d a f below = (a.1 f below).lengths

pub same_lengths : (e d : List (List ℕ)) → AsLong e d → lengths_of d ≡ lengths_of e
unfolding lengths_of
same_lengths e d a = for_same (λ f. length (record_of d f)) (λ f. length (record_of e f)) a

-- its bytes in fibre order
pub event_bytes : (k : Option Constants) (e d : List (List ℕ)) → EventAlike k e d
    → BytesAlike k (in_fibre_order (record_of e)) (in_fibre_order (record_of d))
event_bytes None e d a = in_order_same (record_of d) (record_of e) a
event_bytes (Some c) e d a =
    record { records = e; others = d; in_order = refl; others_in_order = refl; opens = a.0; shifted = a.1 }

-- ---- the records of a completed event

-- a record opens with its own length
record_opens : (kind : Kind) (c : Content) → number_at (record_bytes kind c) 0 ≡ length (record_bytes kind c)
record_opens kind c =
    let n = 3 + length (content_bytes c) in
    omega (arith, mod-add-div n 256)

fibre_opens : (meaning : Meaning) (f : ℕ) (fibre : FibreSettings) (mode : Mode) (samples : List ℕ)
    → number_at (fibre_record meaning f fibre mode samples) 0 ≡ length (fibre_record meaning f fibre mode samples)
unfolding fibre_record
fibre_opens meaning f fibre mode samples = record_opens (kind_in mode) (content_in meaning f fibre mode samples)

-- the samples of a completed event, by its mode
abbrev pub ColumnsAlike : CardSettings → Constants → List (List ℕ) → List (List ℕ) → Mode → Type 0
ColumnsAlike settings c xs ys ZeroSuppression = (f : ℕ) → f < 12 → ShiftedFibre (of_fibre settings f) (c f) (row xs f) (row ys f)
ColumnsAlike settings c xs ys ProcessedRaw = (f : ℕ) → f < 12 → row ys f ≡ row xs f
ColumnsAlike settings c xs ys VirginRaw = (f : ℕ) → f < 12 → row ys f ≡ row xs f

module _ (shifts : ShiftsRecords) (meaning : Meaning) (law : ShiftLaw meaning) (settings : CardSettings) where
  -- the records in a mode
  abbrev one_in : Mode → List (List ℕ) → ℕ → List ℕ
  one_in mode columns f = fibre_record meaning f (of_fibre settings f) mode (row columns f)

  abbrev all_in : Mode → List (List ℕ) → List (List ℕ)
  all_in mode columns = for_fibres (one_in mode columns)

  raw_alike : (mode : Mode) (xs ys : List (List ℕ)) → ((f : ℕ) → f < 12 → row ys f ≡ row xs f) → (f : ℕ) → f < 12
      → record_of (all_in mode ys) f ≡ record_of (all_in mode xs) f
  raw_alike mode xs ys same f below =
      get_or_for (one_in mode ys) f [] below
      ∙ (ap (fibre_record meaning f (of_fibre settings f) mode) (same f below) ∙ sym (get_or_for (one_in mode xs) f [] below))

  formed_alike : ((f : ℕ) → RanksFit (of_fibre settings f)) → (c : Constants) (xs ys : List (List ℕ)) (mode : Mode)
      → ColumnsAlike settings c xs ys mode → EventAlike (constants_in mode c) (all_in mode xs) (all_in mode ys)
  formed_alike fit c xs ys ZeroSuppression a = (
    λ f below.
        subst⁻¹ (λ (r : List ℕ). number_at r 0 ≡ length r) (get_or_for (one_in ZeroSuppression xs) f [] below)
        (fibre_opens meaning f (of_fibre settings f) ZeroSuppression (row xs f)),
    λ f below.
        subst⁻¹ (λ (r : List ℕ). ShiftedRecord (c f) (record_of (all_in ZeroSuppression xs) f) r) (get_or_for (one_in ZeroSuppression ys) f [] below)
        (subst⁻¹ (λ (r : List ℕ). ShiftedRecord (c f) r (one_in ZeroSuppression ys f)) (get_or_for (one_in ZeroSuppression xs) f [] below)
        (shifts meaning f (of_fibre settings f) (c f) (row xs f) (row ys f) law below (fit f) (a f below))),
  )
  formed_alike fit c xs ys ProcessedRaw a = raw_alike ProcessedRaw xs ys a
  formed_alike fit c xs ys VirginRaw a = raw_alike VirginRaw xs ys a

  -- shifted samples give shifted records, equal ones equal records
  pub records_alike : ((f : ℕ) → RanksFit (of_fibre settings f)) → (c : Constants) (xs ys : List (List ℕ))
      → ColumnsAlike settings c xs ys settings.mode
      → EventAlike (constants_in settings.mode c) (records_of meaning settings xs) (records_of meaning settings ys)
  unfolding records_of
  records_alike fit c xs ys a = formed_alike fit c xs ys settings.mode a

-- ---- the events that wait

-- one by one, with their constants
abbrev pub EventsAlike : List (Option Constants) → List (List (List ℕ)) → List (List (List ℕ)) → Type 0
EventsAlike [] [] [] = Unit {0}
EventsAlike [] [] (d ∷ ds) = ⊥
EventsAlike [] (e ∷ es) ds = ⊥
EventsAlike (k ∷ ks) [] ds = ⊥
EventsAlike (k ∷ ks) (e ∷ es) [] = ⊥
EventsAlike (k ∷ ks) (e ∷ es) (d ∷ ds) = EventAlike k e d × EventsAlike ks es ds

pub same_events : (ks : List (Option Constants)) (es ds : List (List (List ℕ))) → EventsAlike ks es ds → map lengths_of ds ≡ map lengths_of es
same_events [] [] [] a = refl
same_events [] [] (d ∷ ds) a = absurd a
same_events [] (e ∷ es) ds a = absurd a
same_events (k ∷ ks) [] ds a = absurd a
same_events (k ∷ ks) (e ∷ es) [] a = absurd a
same_events (k ∷ ks) (e ∷ es) (d ∷ ds) a =
    ap₂ (λ (x : List ℕ) (xs : List (List ℕ)). x ∷ xs) (same_lengths e d (as_long k e d a.0)) (same_events ks es ds a.1)

-- as many bytes wait on each fibre
pub same_stacks : (ks : List (Option Constants)) (es ds : List (List (List ℕ))) → EventsAlike ks es ds
    → (f : ℕ) → f < 12 → length (stacked ds f) ≡ length (stacked es f)
same_stacks [] [] [] a f below = refl
same_stacks [] [] (d ∷ ds) a f below = absurd a
same_stacks [] (e ∷ es) ds a f below = absurd a
same_stacks (k ∷ ks) [] ds a f below = absurd a
same_stacks (k ∷ ks) (e ∷ es) [] a f below = absurd a
same_stacks (k ∷ ks) (e ∷ es) (d ∷ ds) a f below =
    omega (
      arith,
      length-append (record_of d f) (stacked ds f),
      length-append (record_of e f) (stacked es f),
      as_long k e d a.0 f below,
      same_stacks ks es ds a.1 f below,
    )

-- the oldest one
pub oldest_alike : (ks : List (Option Constants)) (es ds : List (List (List ℕ))) → EventsAlike ks es ds
    → BytesAlike (get_or ks 0 None) (in_fibre_order (record_of (oldest_of es))) (in_fibre_order (record_of (oldest_of ds)))
oldest_alike [] [] [] a = refl
oldest_alike [] [] (d ∷ ds) a = absurd a
oldest_alike [] (e ∷ es) ds a = absurd a
oldest_alike (k ∷ ks) [] ds a = absurd a
oldest_alike (k ∷ ks) (e ∷ es) [] a = absurd a
oldest_alike (k ∷ ks) (e ∷ es) (d ∷ ds) a = event_bytes k e d a.0

pushed_alike : (k : Option Constants) (e d : List (List ℕ)) (ks : List (Option Constants)) (es ds : List (List (List ℕ)))
    → EventAlike k e d → EventsAlike ks es ds → EventsAlike (ks ++ k ∷ []) (es ++ e ∷ []) (ds ++ d ∷ [])
pushed_alike k e d [] [] [] n a = (n, tt)
pushed_alike k e d [] [] (y ∷ ds) n a = absurd a
pushed_alike k e d [] (x ∷ es) ds n a = absurd a
pushed_alike k e d (j ∷ ks) [] ds n a = absurd a
pushed_alike k e d (j ∷ ks) (x ∷ es) [] n a = absurd a
pushed_alike k e d (j ∷ ks) (x ∷ es) (y ∷ ds) n a = (a.0, pushed_alike k e d ks es ds n a.1)

dropped_alike : (ks : List (Option Constants)) (es ds : List (List (List ℕ))) → EventsAlike ks es ds
    → EventsAlike (drop 1 ks) (drop 1 es) (drop 1 ds)
dropped_alike [] [] [] a = tt
dropped_alike [] [] (d ∷ ds) a = absurd a
dropped_alike [] (e ∷ es) ds a = absurd a
dropped_alike (k ∷ ks) [] ds a = absurd a
dropped_alike (k ∷ ks) (e ∷ es) [] a = absurd a
dropped_alike (k ∷ ks) (e ∷ es) (d ∷ ds) a = a.1

-- alike answers move them alike
pub moved_alike : (j k : Option Constants) (e d : List (List ℕ)) (a b : Answer) (ks : List (Option Constants)) (es ds : List (List (List ℕ)))
    → Alike j a b → (IsKept a → EventAlike k e d) → EventsAlike ks es ds → EventsAlike (moved k a ks) (moved e a es) (moved d b ds)
moved_alike j k e d (kept n) b ks es ds same new old =
    subst⁻¹ (λ (x : Answer). EventsAlike (ks ++ k ∷ []) (es ++ e ∷ []) (moved d x ds)) same (pushed_alike k e d ks es ds (new tt) old)
moved_alike j k e d (fetched bytes) b ks es ds same new old =
    subst⁻¹ (λ (x : Answer). EventsAlike (drop 1 ks) (drop 1 es) (moved d x ds)) same.1 (dropped_alike ks es ds old)
moved_alike j k e d was_reset b ks es ds same new old =
    subst⁻¹ (λ (x : Answer). EventsAlike [] [] (moved d x ds)) same tt
moved_alike j k e d (plain p) b ks es ds same new old =
    subst⁻¹ (λ (x : Answer). EventsAlike ks es (moved d x ds)) same old

-- ---- two readouts in which alike events wait

module _ (room : ℕ) (ks : List (Option Constants)) (es ds : List (List (List ℕ))) (alike : EventsAlike ks es ds)
    (r q : Readout) (h : Holds room es r) (g : Holds room ds q) where
  pub same_capacity : q.room ≡ r.room
  same_capacity = g.capacity ∙ sym h.capacity

  pub same_queue : q.events ≡ r.events
  same_queue = g.lengths ∙ (same_events ks es ds alike ∙ sym h.lengths)

  pub same_level : (f : ℕ) → f < 12 → level_of q.lists f ≡ level_of r.lists f
  same_level f below =
      ap length (g.each f below) ∙ (same_stacks ks es ds alike f below ∙ sym (ap length (h.each f below)))

  -- a Fetch gives alike bytes
  pub fetched_alike : BytesAlike (get_or ks 0 None) (oldest_bytes r) (oldest_bytes q)
  fetched_alike =
      subst⁻¹ (λ (xs : List ℕ). BytesAlike (get_or ks 0 None) xs (oldest_bytes q)) (gives_oldest room es r h)
      (subst⁻¹ (λ (ys : List ℕ). BytesAlike (get_or ks 0 None) (in_fibre_order (record_of (oldest_of es))) ys) (gives_oldest room ds q g)
      (oldest_alike ks es ds alike))

  -- an event with records of one length is lost in both or in none
  pub same_loss : (e d : List (List ℕ)) → AsLong e d → loss q d ≡ loss r e
  unfolding loss
  same_loss e d a =
      ap₂ (λ (n : ℕ) (o : Option ℕ). cond (leb most_events n) (Some too_many) (lacking o)) (ap length same_queue)
      (lowest_same (exceeds q d) (exceeds r e)
      (λ f below.
      ap₂ ltb (ap₂ (λ (m n : ℕ). m - n) same_capacity (same_level f below)) (a f below)))
