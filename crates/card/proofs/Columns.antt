-- A column of samples is captured.
-- Assumes nothing.
use Rattle.std.proofs.Common.{◌≡◌, ℕ, zero, suc, ◌+◌, ◌-◌, ◌<◌, ◌≤◌, cond, ltb, leb, false, ◌≢◌, List, [], ◌∷◌, ◌++◌, map, length, get_or, set, sym, refl, ap, ◌∙◌, subst, ap₂, arith, below_more}
use Rattle.std.specs.List.{range_with_len}
use Rattle.std.proofs.lemmas.List.FromFn.{map-range_with_len_more}
use Rattle.std.proofs.lemmas.List.{length-map, length-set, map-set, get_or-map, get_or-set_same, get_or-set_other}
use Rattle.std.proofs.lemmas.Bool.{cond-true, cond-false, le-leb, lt-leb, le-ltb}
use Rattle.strips.specs.declared.sample.Sample.{Sample}
use Rattle.strips.specs.Fibre.{numbers}
use Rattle.strips.proofs.Rows.{same_map}
use Rattle.card_model.specs.Clock.{first_sample}
use Rattle.card_model.proofs.Fibres.{get_or_for, for_same}
use Rattle.card.specs.declared.row.Row.{Row}
use Rattle.card.specs.Abstraction.{rows_in, sample_at, column_at, columns_before}
use Rattle.card.specs.Columns.{ColumnSet}
use Rattle.card.specs.Samples.{IsReadAs}
use Rattle.card.proofs.Fibres.{filled, none_too_large, Upto, upto_here, upto_more, upto_all}

-- samples as numbers
pub length_numbers : (samples : List Sample) → length (numbers samples) ≡ length samples
length_numbers samples = length-map samples (λ (x : Sample). x.value)

pub number_at : (samples : List Sample) (f : ℕ) (d : Sample) → f < length samples → (get_or samples f d).value ≡ get_or (numbers samples) f 0
number_at samples f d h = sym (get_or-map (λ (x : Sample). x.value) samples f d 0 h)

-- the first i samples of a Clock are read
pub record ReadUpto (samples : List ℕ) (i : ℕ) (read : List Sample) : Type 0 where
  pub long : length read ≡ 12
  pub fit : (k : ℕ) → k < i → ltb 1023 (get_or samples k 0) ≡ false
  pub same : (k : ℕ) → k < i → get_or (numbers read) k 0 ≡ get_or samples k 0

pub read_more : (samples : List ℕ) (read : List Sample) (i : ℕ) (x : Sample) → i < 12 → ReadUpto samples i read → x.value ≡ get_or samples i 0
    → ReadUpto samples (i + 1) (set read i x)
read_more samples read i x below inv is =
    let here : set (numbers read) i x.value ≡ numbers (set read i x) = sym (map-set (λ (y : Sample). y.value) read i x) in
    record {
      long = length-set read i x ∙ inv.long;
      fit =
          below_more (λ (k : ℕ). ltb 1023 (get_or samples k 0) ≡ false) i inv.fit
          (le-ltb 1023 (get_or samples i 0) (subst (λ (n : ℕ). n ≤ 1023) is x.ten_bits));
      same =
          below_more (λ (k : ℕ). get_or (numbers (set read i x)) k 0 ≡ get_or samples k 0) i
          (λ k h.
          sym (ap (λ (xs : List ℕ). get_or xs k 0) here)
          ∙ (get_or-set_other (numbers read) i k x.value 0 (omega arith) ∙ inv.same k h))
          (sym (ap (λ (xs : List ℕ). get_or xs i 0) here)
          ∙ (get_or-set_same (numbers read) i x.value 0 (omega (arith, length_numbers read, inv.long)) ∙ is));
    }

pub read_all : (samples : List ℕ) (read : List Sample) (i : ℕ) → 12 ≤ i → length samples ≡ 12 → ReadUpto samples i read → IsReadAs samples read
read_all samples read i all long inv =
    record {
      fits = sym (none_too_large samples i all inv.fit);
      same =
          filled (λ f. get_or samples f 0) (numbers read) 0 (length_numbers read ∙ inv.long) (λ f h. inv.same f (omega arith))
          ∙ sym (filled (λ f. get_or samples f 0) samples 0 long (λ f h. refl));
    }

-- every row has 256 samples
pub rows_long : (rows : List Row) (f : ℕ) → f < length rows → length (get_or (rows_in rows) f []) ≡ 256
unfolding rows_in
rows_long [] f h = absurd (omega arith)
rows_long (r ∷ rs) zero h = length-map r.samples (λ (x : Sample). x.value) ∙ r.full
rows_long (r ∷ rs) (suc f) h = rows_long rs f (omega arith)

pub length_rows : (rows : List Row) → length (rows_in rows) ≡ length rows
unfolding rows_in
length_rows rows = length-map rows (λ (r : Row). numbers r.samples)

rows_set : (rows : List Row) (f : ℕ) (r : Row) → rows_in (set rows f r) ≡ set (rows_in rows) f (numbers r.samples)
unfolding rows_in
rows_set rows f r = map-set (λ (x : Row). numbers x.samples) rows f r

pub row_at : (rows : List Row) (f : ℕ) (d : Row) → f < length rows → get_or (rows_in rows) f [] ≡ numbers (get_or rows f d).samples
unfolding rows_in
row_at rows f d h = get_or-map (λ (x : Row). numbers x.samples) rows f d [] h

module _ (before : List Row) (place : ℕ) (samples : List ℕ) where
  -- a row with its sample at the place
  abbrev pub set_row : ℕ → List ℕ
  set_row f = set (get_or (rows_in before) f []) place (get_or samples f 0)

  pub set_more : (rows : List Row) (i : ℕ) (d new : Row) (x : Sample) → i < 12 → length rows ≡ 12
      → Upto set_row [] (rows_in before) i (rows_in rows)
      → new.samples ≡ set (get_or rows i d).samples place x → x.value ≡ get_or samples i 0
      → Upto set_row [] (rows_in before) (i + 1) (rows_in (set rows i new))
  set_more rows i d new x below long inv put is =
      let was : numbers (get_or rows i d).samples ≡ get_or (rows_in before) i [] =
      sym (row_at rows i d (omega arith)) ∙ upto_here set_row [] (rows_in before) i (rows_in rows) below inv
      in
      let here : numbers new.samples ≡ set_row i =
      ap numbers put
      ∙ (map-set (λ (y : Sample). y.value) (get_or rows i d).samples place x
      ∙ ap₂ (λ (row : List ℕ) (n : ℕ). set row place n) was is)
      in
      subst (Upto set_row [] (rows_in before) (i + 1)) (sym (rows_set rows i new))
      (upto_more set_row [] (rows_in before) i (rows_in rows) (numbers new.samples) below (length_rows rows ∙ long) inv here)

  pub set_all : (rows : List Row) (i : ℕ) → 12 ≤ i → length before ≡ 12 → length rows ≡ 12 → length samples ≡ 12 → place < 256
      → Upto set_row [] (rows_in before) i (rows_in rows) → ColumnSet (rows_in before) place samples (rows_in rows)
  set_all rows i all twelve long many small inv =
      record {
        twelve = many;
        inside = λ f h. omega (arith, rows_long before f (omega arith));
        rows = upto_all set_row [] (rows_in before) i (rows_in rows) all (length_rows rows ∙ long) inv;
      }

module _ (before : List (List ℕ)) (place : ℕ) (samples : List ℕ) (after : List (List ℕ)) (k : ColumnSet before place samples after) where
  after_at : (p f : ℕ) → f < 12 → sample_at after p f ≡ get_or (set (get_or before f []) place (get_or samples f 0)) p 0
  after_at p f h =
      ap (λ (rows : List (List ℕ)). sample_at rows p f) k.rows
      ∙ ap (λ (row : List ℕ). get_or row p 0) (get_or_for (λ g. set (get_or before g []) place (get_or samples g 0)) f [] h)

  other_column : (p : ℕ) → p ≢ place → column_at after p ≡ column_at before p
  unfolding column_at
  other_column p other =
      for_same (sample_at after p) (sample_at before p)
      (λ f h. after_at p f h ∙ get_or-set_other (get_or before f []) place p (get_or samples f 0) 0 other)

  new_column : column_at after place ≡ samples
  unfolding column_at
  new_column =
      for_same (sample_at after place) (λ f. get_or samples f 0)
      (λ f h. after_at place f h ∙ get_or-set_same (get_or before f []) place (get_or samples f 0) 0 (k.inside f h))
      ∙ sym (filled (λ f. get_or samples f 0) samples 0 k.twelve (λ f h. refl))

  pub column_more : (position : ℕ) → first_sample ≤ position → place ≡ position - first_sample
      → columns_before after (position + 1)
      ≡ cond (leb first_sample position) (columns_before before position ++ samples ∷ []) (columns_before before position)
  unfolding columns_before
  column_more position late is =
      let next : position + 1 - first_sample ≡ place + 1 = omega arith in
      let old : map (column_at after) (range_with_len 0 place) ≡ map (column_at before) (range_with_len 0 place) =
      same_map (column_at after) (column_at before) 0 place (λ p from h. other_column p (omega arith))
      in
      ap (λ (n : ℕ). map (column_at after) (range_with_len 0 n)) next
      ∙ (map-range_with_len_more (column_at after) 0 place place (omega arith)
      ∙ (ap₂ (λ (cs : List (List ℕ)) (x : List ℕ). cs ++ x ∷ []) old new_column
      ∙ (ap (λ (n : ℕ). map (column_at before) (range_with_len 0 n) ++ samples ∷ []) is
      ∙ sym (cond-true (leb first_sample position) (columns_before before position ++ samples ∷ []) (columns_before before position)
      (le-leb first_sample position late)))))

pub column_none : (rows : List (List ℕ)) (samples : List ℕ) (position : ℕ) → position < first_sample
    → columns_before rows (position + 1)
    ≡ cond (leb first_sample position) (columns_before rows position ++ samples ∷ []) (columns_before rows position)
unfolding columns_before
column_none rows samples position early =
    let same : position + 1 - first_sample ≡ position - first_sample = omega arith in
    ap (λ (n : ℕ). map (column_at rows) (range_with_len 0 n)) same
    ∙ sym (cond-false (leb first_sample position) (columns_before rows position ++ samples ∷ []) (columns_before rows position)
    (lt-leb first_sample position early))
