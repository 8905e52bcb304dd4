-- What is known of a card's tickers and its capture by their types.
-- Assumes nothing.
use Rattle.std.proofs.Common.{◌≡◌, ℕ, zero, suc, ◌≤◌, ◌-◌, List, [], ◌∷◌, map, length, get_or, Some, None, Option, IfSome, ◌∙◌, arith}
use Rattle.std.specs.List.{AllByRecursion, range_with_len}
use Rattle.std.proofs.ByRecursion.{All-map}
use Rattle.std.proofs.lemmas.List.{length-map}
use Rattle.std.proofs.lemmas.List.FromFn.{length-range_with_len}
use Rattle.layout.specs.Event.{TenBits}
use Rattle.strips.specs.declared.sample.Sample.{Sample}
use Rattle.strips.specs.Fibre.{numbers}
use Rattle.ticker.specs.declared.ticker.Ticker.{Ticker}
use Rattle.card_model.specs.Clock.{first_sample}
use Rattle.card_model.specs.Fibres.{for_fibres}
use Rattle.card.specs.declared.capture.Capture.{Capture}
use Rattle.card.specs.declared.row.Row.{Row}
use Rattle.card.specs.Abstraction.{watch_in, watches_in, rows_in, sample_at, column_at, columns_before, capture_in}
use Rattle.card.specs.Standing.{InReach, IsColumn, Captured}

-- what holds of every element holds of a list of any
every : {X : Type 0} (P : X → Type 0) → ((x : X) → P x) → (xs : List X) → AllByRecursion P xs
every P h [] = tt
every P h (x ∷ xs) = (h x, every P h xs)

pub all_in_reach : (tickers : List Ticker) → AllByRecursion InReach (watches_in tickers)
unfolding watches_in
all_in_reach tickers = All-map InReach watch_in tickers (every (λ t. InReach (watch_in t)) (λ t. (t.low, t.high)) tickers)

-- a sample of a row, or 0 where there is none
sample_small : (samples : List Sample) (place : ℕ) → get_or (numbers samples) place 0 ≤ 1023
sample_small [] place = omega arith
sample_small (x ∷ samples) zero = x.ten_bits
sample_small (x ∷ samples) (suc place) = sample_small samples place

row_small : (rows : List Row) (f place : ℕ) → get_or (get_or (map (λ r. numbers r.samples) rows) f []) place 0 ≤ 1023
row_small [] f place = omega arith
row_small (r ∷ rows) zero place = sample_small r.samples place
row_small (r ∷ rows) (suc f) place = row_small rows f place

a_column : (rows : List Row) (place : ℕ) → IsColumn (column_at (rows_in rows) place)
unfolding rows_in column_at for_fibres
a_column rows place =
    let g : ℕ → ℕ = sample_at (map (λ r. numbers r.samples) rows) place in (
      length-map (range_with_len 0 12) g ∙ length-range_with_len 0 12,
      All-map TenBits g (range_with_len 0 12) (every (λ f. TenBits (g f)) (λ f. row_small rows f place) (range_with_len 0 12)),
    )

pub capture_stands : (rows : List Row) (o : Option Capture) → IfSome (capture_in (rows_in rows) o) Captured
unfolding columns_before
capture_stands rows None = tt
capture_stands rows (Some c) =
    let places : List ℕ = range_with_len 0 (c.position - first_sample) in
    let g : ℕ → List ℕ = column_at (rows_in rows) in
    record {
      within = c.inside;
      many = length-map places g ∙ length-range_with_len 0 (c.position - first_sample);
      columns = All-map IsColumn g places (every (λ place. IsColumn (g place)) (a_column rows) places);
    }

pub capture_within : (rows : List (List ℕ)) (o : Option Capture) → IfSome (capture_in rows o) (λ c. c.position ≤ 279)
capture_within rows None = tt
capture_within rows (Some c) = c.inside
