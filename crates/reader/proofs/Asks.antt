-- What an Ok at the end of questions says of each of them.
-- Assumes nothing.
use Rattle.std.proofs.Common.{◌≡◌, ℕ, Bool, true, false, Some, None, Ok, Err, Option, Result, refl, ap, ◌∙◌, arith}
use Rattle.reader.specs.Questions.{ok_map, err_map, and_then, ask}

pub err_ok : {A E : Type 0} (e : E) (x : A) → ◌≡◌ {A = Result A E} (Err e) (Ok x) → ⊥
err_ok e x h = let z : ◌≡◌ {A = ℕ} 0 1 = cc in omega arith

pub ok_err : {A E : Type 0} (e : E) (x : A) → ◌≡◌ {A = Result A E} (Ok x) (Err e) → ⊥
ok_err e x h = let z : ◌≡◌ {A = ℕ} 0 1 = cc in omega arith

pub none_some : {A : Type 0} (x : A) → ◌≡◌ {A = Option A} None (Some x) → ⊥
none_some x h = let z : ◌≡◌ {A = ℕ} 0 1 = cc in omega arith

pub ok_same : {A E : Type 0} (x y : A) → ◌≡◌ {A = Result A E} (Ok x) (Ok y) → x ≡ y
ok_same x y h = cc

pub err_same : {A E : Type 0} (x y : E) → ◌≡◌ {A = Result A E} (Err x) (Err y) → x ≡ y
err_same x y h = cc

pub some_same : {A : Type 0} (x y : A) → ◌≡◌ {A = Option A} (Some x) (Some y) → x ≡ y
some_same x y h = cc

-- each question was answered yes
pub ask_ok : {A E : Type 0} (t : Bool) (e : E) (r : Result A E) (x : A) → ask t e r ≡ Ok x → (t ≡ true) × (r ≡ Ok x)
ask_ok true e r x h = (refl, h)
ask_ok false e r x h = absurd (err_ok e x h)

pub and_then_ok :
    {A B E : Type 0} (r : Result A E) (f : A → Result B E) (y : B) → and_then r f ≡ Ok y → (x : A) × (r ≡ Ok x) × (f x ≡ Ok y)
and_then_ok (Ok x) f y h = (x, refl, h)
and_then_ok (Err e) f y h = absurd (err_ok e y h)

pub ok_map_ok :
    {A B E : Type 0} (f : A → B) (r : Result A E) (y : B) → ok_map f r ≡ Ok y → (x : A) × (r ≡ Ok x) × (f x ≡ y)
ok_map_ok f (Ok x) y h = (x, refl, ok_same (f x) y h)
ok_map_ok f (Err e) y h = absurd (err_ok e y h)

pub err_map_ok : {A E F : Type 0} (f : E → F) (r : Result A E) (x : A) → err_map f r ≡ Ok x → r ≡ Ok x
err_map_ok f (Ok y) x h = ap Ok (ok_same y x h)
err_map_ok f (Err e) x h = absurd (err_ok (f e) x h)

pub ask_yes : {A E : Type 0} (t : Bool) (e : E) (r : Result A E) (x : A) → t ≡ true → r ≡ Ok x → ask t e r ≡ Ok x
ask_yes t e r x y h = ap (λ (b : Bool). ask b e r) y ∙ h
