-- The records of an event, formed in twelve buffers.
-- Assumes nothing.
use Rattle.std.proofs.Common.{◌≡◌, ℕ, ◌+◌, ◌<◌, ◌≤◌, true, List, [], ◌∷◌, length, get_or, set, Ok, Err, Result, sym, refl, ap, ◌∙◌, arith}
use Rattle.std.specs.Result.{is_ok}
use Rattle.std.specs.List.{range_with_len, AllByRecursion}
use Rattle.std.proofs.lemmas.List.FromFn.{fill_by_all}
use Rattle.std.proofs.lemmas.List.{length-map}
use Rattle.std.proofs.lemmas.Simd.{map-map}
use Rattle.terms.specs.declared.refusal.Refusal.{Refusal}
use Rattle.rules.specs.Rules.{Meaning}
use Rattle.settings.specs.declared.card.CardSettings.{CardSettings}
use Rattle.settings.specs.declared.fibre.FibreSettings.{FibreSettings}
use Rattle.settings.specs.declared.mode.Mode.{Mode}
use Rattle.settings.specs.Settings.{of_fibre}
use Rattle.layout.specs.Event.{TenBits}
use Rattle.layout.specs.Writing.{Written}
use Rattle.layout.specs.Lengths.{lengths_in_range, longest_most}
use Rattle.clusters.proofs.Spacing.{clusters_in_place}
use Rattle.strips.specs.declared.sample.Sample.{Sample}
use Rattle.strips.specs.Fibre.{numbers, kind_in, content_in, fibre_record}
use Rattle.strips.specs.Laws.{Bounded}
use Rattle.strips.proofs.Rows.{same_map}
use Rattle.strips.proofs.FormedRecords.{records_of_the_layout}
use Rattle.card_model.specs.Readout.{record_of, lengths_of}
use Rattle.card_model.specs.Clock.{row, records_of}
use Rattle.card_model.proofs.Fibres.{get_or_for, for_same}
use Rattle.card.specs.declared.row.Row.{Row}
use Rattle.card.specs.Abstraction.{rows_in, sample_at, column_at, columns_before}
use Rattle.card.proofs.Columns.{rows_long, row_at}
use Rattle.card.proofs.Fibres.{Upto, upto_more, upto_all}

-- a sample has ten bits
numbers_small : (xs : List Sample) → AllByRecursion TenBits (numbers xs)
numbers_small [] = tt
numbers_small (x ∷ xs) = (x.ten_bits, numbers_small xs)

-- a record has at most 515 bytes
pub record_short : (meaning : Meaning) → Bounded meaning → (f : ℕ) (fibre : FibreSettings) (mode : Mode) (samples : List Sample)
    → f < 12 → length samples ≡ 256 → length (fibre_record meaning f fibre mode (numbers samples)) ≤ 515
unfolding fibre_record
record_short meaning bounded f fibre mode samples below long =
    let h = lengths_in_range (kind_in mode) (content_in meaning f fibre mode (numbers samples))
    (records_of_the_layout clusters_in_place meaning f fibre mode (numbers samples) bounded below
    (length-map samples (λ (x : Sample). x.value) ∙ long) (numbers_small samples))
    in
    omega (arith, longest_most (kind_in mode))

-- the captured samples of one fibre, out of all columns
row_of : (rows : List Row) (f : ℕ) → length rows ≡ 12 → f < 12 → get_or (rows_in rows) f [] ≡ row (columns_before (rows_in rows) 280) f
unfolding columns_before column_at
row_of rows f twelve below =
    fill_by_all (sample_at' f) (get_or (rows_in rows) f []) 256 0 (rows_long rows f (omega arith)) (λ p h. refl)
    ∙ sym (map-map (λ (column : List ℕ). get_or column f 0) (column_at (rows_in rows)) (range_with_len 0 256)
    ∙ same_map (λ p. get_or (column_at (rows_in rows) p) f 0) (sample_at' f) 0 256 (λ p from h. get_or_for (sample_at (rows_in rows) p) f 0 below))
  where
    sample_at' : ℕ → ℕ → ℕ
    sample_at' g p = sample_at (rows_in rows) p g

module _ (meaning : Meaning) (settings : CardSettings) (rows : List Row) where
  -- the record of a fibre
  abbrev pub formed_by : ℕ → List ℕ
  formed_by f = fibre_record meaning f (of_fibre settings f) settings.mode (get_or (rows_in rows) f [])

  pub formed_more : (start records : List (List ℕ)) (i : ℕ) (d : Row) (bytes : List ℕ) → i < 12 → length records ≡ 12 → length rows ≡ 12
      → Upto formed_by [] start i records
      → bytes ≡ fibre_record meaning i (of_fibre settings i) settings.mode (numbers (get_or rows i d).samples)
      → Upto formed_by [] start (i + 1) (set records i bytes)
  formed_more start records i d bytes below many twelve inv is =
      upto_more formed_by [] start i records bytes below many inv
      (is ∙ sym (ap (fibre_record meaning i (of_fibre settings i) settings.mode) (row_at rows i d (omega arith))))

  pub formed_all : (start records : List (List ℕ)) (i : ℕ) → 12 ≤ i → length records ≡ 12 → length rows ≡ 12 → Upto formed_by [] start i records
      → records ≡ records_of meaning settings (columns_before (rows_in rows) 280)
  unfolding records_of
  formed_all start records i all many twelve inv =
      upto_all formed_by [] start i records all many inv
      ∙ for_same formed_by (λ f. fibre_record meaning f (of_fibre settings f) settings.mode (row (columns_before (rows_in rows) 280) f))
      (λ f h. ap (fibre_record meaning f (of_fibre settings f) settings.mode) (row_of rows f twelve h))

pub long_all : (records : List (List ℕ)) (lengths start : List ℕ) (i : ℕ) → 12 ≤ i → length lengths ≡ 12
    → Upto (λ f. length (record_of records f)) 0 start i lengths → lengths ≡ lengths_of records
unfolding lengths_of
long_all records lengths start i all long inv = upto_all (λ f. length (record_of records f)) 0 start i lengths all long inv

never_too_long : (meaning : Meaning) (f : ℕ) (fibre : FibreSettings) (mode : Mode) (samples : List Sample) (buffer : List ℕ) → Bounded meaning
    → f < 12 → length samples ≡ 256 → length buffer ≡ 515 → length buffer < length (fibre_record meaning f fibre mode (numbers samples)) → ⊥
never_too_long meaning f fibre mode samples buffer bounded below long room short =
    omega (arith, record_short meaning bounded f fibre mode samples below long)

-- a buffer that is long enough for every record takes this one
pub never_refused : (meaning : Meaning) (f : ℕ) (fibre : FibreSettings) (mode : Mode) (samples : List Sample) (buffer after : List ℕ) (r : Result ℕ Refusal)
    → Bounded meaning → f < 12 → length samples ≡ 256 → length buffer ≡ 515
    → Written (fibre_record meaning f fibre mode (numbers samples)) buffer after r → is_ok r ≡ true
never_refused meaning f fibre mode samples buffer after (Ok n) bounded below long room w = refl
never_refused meaning f fibre mode samples buffer after (Err e) bounded below long room w =
    absurd (never_too_long meaning f fibre mode samples buffer bounded below long room w.1)
