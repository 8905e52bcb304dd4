-- A step of all tickers, and how the fibres stand then.
-- Assumes nothing.
use Rattle.std.proofs.Common.{◌≡◌, ℕ, ◌+◌, ◌*◌, ◌<◌, ◌≤◌, Bool, false, ◌&&◌, ltb, List, [], ◌∷◌, map, length, get_or, set, sym, refl, ap, ◌∙◌, subst, ap₂, arith}
use Rattle.std.specs.List.{range_with_len, AllByRecursion}
use Rattle.std.proofs.lemmas.List.FromFn.{get_or-range_with_len, length-range_with_len}
use Rattle.std.proofs.ByRecursion.{All-from_get_or}
use Rattle.std.proofs.lemmas.List.{get_or_default}
use Rattle.std.proofs.lemmas.Bool.{le-ltb}
use Rattle.terms.specs.declared.pair.Side.TheVariants.{Left, Right}
use Rattle.terms.specs.Terms.{enabled}
use Rattle.settings.specs.declared.card.CardSettings.{CardSettings}
use Rattle.settings.specs.declared.fibre.FibreSettings.{FibreSettings}
use Rattle.settings.specs.Settings.{no_fibre, of_fibre}
use Rattle.ticker.specs.declared.header.FrameHeader.{FrameHeader}
use Rattle.ticker.specs.declared.state.State.{State}
use Rattle.ticker.specs.declared.ticker.Ticker.{Ticker}
use Rattle.ticker.specs.Step.{is_one, next, pulses, heard}
use Rattle.synch.specs.declared.chips.Question.TheVariants.{InLock, InStep}
use Rattle.synch.specs.declared.standing.Standing.{Standing}
use Rattle.synch.specs.Vote.{one_if, count, event}
use Rattle.card_model.specs.Fibres.{for_fibres}
use Rattle.card_model.specs.State.{Watch, watch_of, off}
use Rattle.card_model.specs.Clock.{ticked, watches_after, pulses_with, standings}
use Rattle.card.specs.Abstraction.{watch_in, watches_in, standing_as}
use Rattle.card.proofs.Fibres.{Upto, upto_here, upto_more, upto_all}
use Rattle.card.proofs.Loading.{watch_at, watches_set}
use Rattle.card.proofs.Restarting.{length_watches}

module _ (settings : CardSettings) (before : List Ticker) (samples : List ℕ) where
  abbrev pub ticked_by : ℕ → Watch
  ticked_by f = ticked (of_fibre settings f) (get_or samples f 0) (watch_of (watches_in before) f)

  abbrev pub pulsed_by : ℕ → Bool
  pulsed_by f = pulses (of_fibre settings f).enable (watch_of (watches_in before) f).state (is_one (get_or samples f 0) (of_fibre settings f).threshold)

  -- the watch of a fibre that has not ticked yet
  not_yet : (tickers : List Ticker) (i : ℕ) (d : Ticker) → i < 12 → length tickers ≡ 12
      → Upto ticked_by off (watches_in before) i (watches_in tickers) → watch_in (get_or tickers i d) ≡ watch_of (watches_in before) i
  not_yet tickers i d below long inv =
      sym (watch_at tickers i d (omega arith)) ∙ upto_here ticked_by off (watches_in before) i (watches_in tickers) below inv

  pub ticked_more : (tickers : List Ticker) (i : ℕ) (d new : Ticker) (e : FibreSettings) (level : Bool) → i < 12 → length tickers ≡ 12
      → length settings.fibres ≡ 12 → Upto ticked_by off (watches_in before) i (watches_in tickers)
      → (n : ℕ) → n ≡ get_or samples i 0 → level ≡ is_one n (get_or settings.fibres i e).threshold
      → new.state ≡ next (get_or settings.fibres i e).enable (get_or tickers i d).state level
      → new.header ≡ heard (get_or settings.fibres i e).enable (get_or tickers i d).state level (get_or tickers i d).header
      → Upto ticked_by off (watches_in before) (i + 1) (watches_in (set tickers i new))
  ticked_more tickers i d new e level below long longs inv n number as_n state header =
      let at : level ≡ is_one (get_or samples i 0) (get_or settings.fibres i e).threshold =
      as_n ∙ ap (λ (m : ℕ). is_one m (get_or settings.fibres i e).threshold) number
      in
      let fibre : get_or settings.fibres i e ≡ of_fibre settings i = get_or_default settings.fibres i e no_fibre (omega arith) in
      let was : watch_in (get_or tickers i d) ≡ watch_of (watches_in before) i = not_yet tickers i d below long inv in
      let with_level : watch_in new
      ≡ record {
        state = next (get_or settings.fibres i e).enable (get_or tickers i d).state (is_one (get_or samples i 0) (get_or settings.fibres i e).threshold);
        header = heard (get_or settings.fibres i e).enable (get_or tickers i d).state (is_one (get_or samples i 0) (get_or settings.fibres i e).threshold) (get_or tickers i d).header;
      }
      = ap₂ (λ (s : State) (h : FrameHeader). record { state = s; header = h })
      (state ∙ ap (next (get_or settings.fibres i e).enable (get_or tickers i d).state) at)
      (header ∙ ap (λ (l : Bool). heard (get_or settings.fibres i e).enable (get_or tickers i d).state l (get_or tickers i d).header) at)
      in
      let here : watch_in new ≡ ticked_by i =
      with_level ∙ ap₂ (λ (x : FibreSettings) (w : Watch). ticked x (get_or samples i 0) w) fibre was
      in
      subst (Upto ticked_by off (watches_in before) (i + 1)) (sym (watches_set tickers i new))
      (upto_more ticked_by off (watches_in before) i (watches_in tickers) (watch_in new) below (length_watches tickers ∙ long) inv here)

  pub pulsed_more : (tickers : List Ticker) (ps start : List Bool) (i : ℕ) (d : Ticker) (e : FibreSettings) (level p : Bool) → i < 12 → length tickers ≡ 12
      → length ps ≡ 12 → length settings.fibres ≡ 12 → Upto ticked_by off (watches_in before) i (watches_in tickers)
      → Upto pulsed_by false start i ps
      → (n : ℕ) → n ≡ get_or samples i 0 → level ≡ is_one n (get_or settings.fibres i e).threshold
      → p ≡ pulses (get_or settings.fibres i e).enable (get_or tickers i d).state level
      → Upto pulsed_by false start (i + 1) (set ps i p)
  pulsed_more tickers ps start i d e level p below long many longs inv before_p n number as_n pulse =
      let at : level ≡ is_one (get_or samples i 0) (get_or settings.fibres i e).threshold =
      as_n ∙ ap (λ (m : ℕ). is_one m (get_or settings.fibres i e).threshold) number
      in
      let fibre : get_or settings.fibres i e ≡ of_fibre settings i = get_or_default settings.fibres i e no_fibre (omega arith) in
      let was : watch_in (get_or tickers i d) ≡ watch_of (watches_in before) i = not_yet tickers i d below long inv in
      let here : p ≡ pulsed_by i =
      pulse
      ∙ (ap (pulses (get_or settings.fibres i e).enable (get_or tickers i d).state) at
      ∙ ap₂ (λ (x : FibreSettings) (w : Watch). pulses x.enable w.state (is_one (get_or samples i 0) x.threshold)) fibre was)
      in
      upto_more pulsed_by false start i ps p below many before_p here

  pub ticked_all : (tickers : List Ticker) (i : ℕ) → 12 ≤ i → length tickers ≡ 12 → Upto ticked_by off (watches_in before) i (watches_in tickers)
      → watches_in tickers ≡ watches_after settings (watches_in before) samples
  unfolding watches_after
  ticked_all tickers i all long inv = upto_all ticked_by off (watches_in before) i (watches_in tickers) all (length_watches tickers ∙ long) inv

  pub pulsed_all : (ps start : List Bool) (i : ℕ) → 12 ≤ i → length ps ≡ 12 → Upto pulsed_by false start i ps
      → ps ≡ pulses_with settings (watches_in before) samples
  unfolding pulses_with
  pulsed_all ps start i all long inv = upto_all pulsed_by false start i ps all long inv

module _ (settings : CardSettings) (tickers : List Ticker) (in_step : List Bool) where
  -- how a fibre stands
  abbrev pub stands : ℕ → Standing
  stands f = standing_as (of_fibre settings f).enable (watch_of (watches_in tickers) f) (get_or in_step f false)

  pub stands_more : (xs start : List Standing) (i : ℕ) (d : Ticker) (e : FibreSettings) (b : Bool) (x z : Standing) → i < 12 → length xs ≡ 12
      → length tickers ≡ 12 → length settings.fibres ≡ 12 → length in_step ≡ 12 → Upto stands z start i xs
      → x ≡ standing_as (get_or settings.fibres i e).enable (watch_in (get_or tickers i d)) (get_or in_step i b)
      → Upto stands z start (i + 1) (set xs i x)
  stands_more xs start i d e b x z below many long longs flags inv is =
      let fibre : get_or settings.fibres i e ≡ of_fibre settings i = get_or_default settings.fibres i e no_fibre (omega arith) in
      let watch : watch_in (get_or tickers i d) ≡ watch_of (watches_in tickers) i = sym (watch_at tickers i d (omega arith)) in
      let flag : get_or in_step i b ≡ get_or in_step i false = get_or_default in_step i b false (omega arith) in
      let here : x ≡ stands i =
      is
      ∙ (ap (λ (y : FibreSettings). standing_as y.enable (watch_in (get_or tickers i d)) (get_or in_step i b)) fibre
      ∙ ap₂ (λ (w : Watch) (y : Bool). standing_as (of_fibre settings i).enable w y) watch flag)
      in
      upto_more stands z start i xs x below many inv here

  pub stands_all : (xs start : List Standing) (i : ℕ) (z : Standing) → 12 ≤ i → length xs ≡ 12 → Upto stands z start i xs
      → xs ≡ standings settings (watches_in tickers) in_step
  unfolding standings
  stands_all xs start i z all long inv = upto_all stands z start i xs all long inv

-- without a pulse no event begins
no_votes : (g : ℕ → Standing) (fs : List ℕ) → AllByRecursion (λ f. (g f).in_step ≡ false) fs → count InStep (map g fs) ≡ 0
no_votes g [] a = refl
no_votes g (f ∷ fs) a =
    ap₂ (λ (m n : ℕ). m + n)
    (ap (λ (b : Bool). one_if (b && enabled (g f).enable Left) + one_if (b && enabled (g f).enable Right)) a.0) (no_votes g fs a.1)

pub no_event : (settings : CardSettings) (watches : List Watch) (in_step : List Bool) → ((f : ℕ) → f < 12 → get_or in_step f false ≡ false)
    → event (standings settings watches in_step) ≡ false
unfolding standings for_fibres
no_event settings watches in_step none =
    let g : ℕ → Standing = λ f. standing_as (of_fibre settings f).enable (watch_of watches f) (get_or in_step f false) in
    let votes : count InStep (map g (range_with_len 0 12)) ≡ 0 =
    no_votes g (range_with_len 0 12)
    (All-from_get_or (λ (f : ℕ). get_or in_step f false ≡ false) (range_with_len 0 12) 0
    (λ i below.
    let at : get_or (range_with_len 0 12) i 0 ≡ 0 + i = get_or-range_with_len 0 12 i 0 (omega (arith, length-range_with_len 0 12)) in
    none (get_or (range_with_len 0 12) i 0) (omega (arith, length-range_with_len 0 12))))
    in
    ap (λ (n : ℕ). ltb (count InLock (map g (range_with_len 0 12))) (2 * n)) votes ∙ le-ltb (count InLock (map g (range_with_len 0 12))) 0 (omega arith)
