-- What a call of a ring leaves, over any memory: cells before it, cells' after it. Assumes nothing.
use Rattle.std.proofs.Common.{◌≡◌, ℕ, ◌+◌, ◌*◌, ◌<◌, ◌≤◌, [], ◌∷◌, length, get_or, take, sym, ap, ◌∙◌, refl, arith}
use Rattle.std.proofs.lemmas.List.{ext_get_or, length-take-le, get_or-take}
use Rattle.std.proofs.lemmas.List.FromFn.{length-map-range_with_len, get_or-map-range_with_len}
use Rattle.stores.specs.declared.index.Index.{Index}
use Rattle.stores.specs.declared.stretch.Stretch.{Stretch}
use Rattle.stores.specs.Cells.{round}
use Rattle.stores.specs.Places.{wrapped, start_at, level_at, place, ring, Inside, Granted, Released}
use Rattle.stores.specs.Sound.{level_in, list_of}
use Rattle.stores.proofs.Lists.{put_may, take_may, answered_by}
use Rattle.stores.proofs.Rings.{Widened, put_lists, Shortened, take_lists, round_place, ring_inside, place_below, wrapped_start}

-- the stretch of a fibre's ring from a place of the ring on
pub record From (ix : Index) (f within : ℕ) (s : Stretch) : Type 0 where
  pub first : s.first ≡ f * ix.capacity
  pub end : s.end ≡ f * ix.capacity + ix.capacity
  pub place : s.place ≡ f * ix.capacity + within

-- the ring of a fibre holds the stretch from a place of its own on
stretch_inside : (ix : Index) (f m n : ℕ) (s : Stretch) → f < 12 → m + n ≤ ix.capacity → From ix f (wrapped ix.capacity (start_at ix f + m)) s → Inside ix.capacity n s
stretch_inside ix f m n s hf fits is =
    let ring = ring_inside f ix.capacity hf in
    record {
      fits = omega (arith, is.first, is.end);
      end_inside = omega (arith, is.end);
      place_inside = λ some. rw is.place (place_below ix f m hf (omega arith));
    }

pub granted : (ix ix' : Index) (f n : ℕ) (s : Stretch) → Widened ix ix' f n → From ix f (wrapped ix.capacity (start_at ix f + level_at ix f)) s → Granted ix ix' f n s
granted ix ix' f n s h is =
    let begins = ix.starts f in
    let room = h.fits in
    record {
      answer = λ cells. rw (level_in ix cells f) (sym (put_may ix.capacity (level_at ix f) f n h.fibre h.fits));
      all = λ cells cells' bytes long w.
          let h' : Widened ix ix' f (length bytes) = rw long h in
          let at : (k : ℕ) → k < length bytes → round s.first s.end s.place k ≡ place ix f (level_at ix f + k) =
          λ k l. rw (is.first, is.end, is.place) (round_place ix f (level_at ix f) k (omega arith)) in
          put_lists ix ix' cells cells' f bytes h' (λ k l. ap cells' (sym (at k l)) ∙ w.here k l) (λ q ne. w.there q (λ k l e. ne k l (e ∙ at k l)));
      one = λ cells cells' b single w.
          let h' : Widened ix ix' f 1 = rw (← single) h in
          put_lists ix ix' cells cells' f (b ∷ []) h'
          (λ k l. let z : k ≡ 0 = omega arith in rw z (ap cells' (ap (place ix f) (omega arith) ∙ sym is.place) ∙ w.here))
          (λ q ne. w.there q (λ e. ne 0 (omega arith) (e ∙ is.place ∙ ap (place ix f) (omega arith))));
      inside = stretch_inside ix f (level_at ix f) n s h.fibre room is;
      room = h.room;
    }

pub released : (ix ix' : Index) (f n : ℕ) (s : Stretch) → Shortened ix ix' f n → From ix f (start_at ix f) s → Released ix ix' f n s
released ix ix' f n s h at' =
    let most = ix.levels f in
    let begins = ix.starts f in
    let waits = h.waits in
    let is : From ix f (wrapped ix.capacity (start_at ix f + 0)) s = rw (wrapped_start ix.capacity (start_at ix f) begins) at' in
    record {
      answer = λ cells. rw (level_in ix cells f) (sym (take_may (level_at ix f) f n h.fibre h.waits));
      lists = take_lists ix ix' f n h;
      all = λ cells out long picked.
          let m = length-map-range_with_len (λ k. cells (place ix f k)) 0 (level_at ix f) in
          rw (list_of ix cells f [] h.fibre)
          (ext_get_or 0 out (take n (ring ix cells f)) (long ∙ sym (length-take-le n (ring ix cells f) (omega arith)))
          (λ k l.
          picked.each k l ∙ ap cells (rw (is.first, is.end, is.place) (round_place ix f 0 k (omega arith) ∙ ap (place ix f) (omega arith)))
          ∙ sym (get_or-take n (ring ix cells f) k 0 (omega arith) ∙ get_or-map-range_with_len (λ j. cells (place ix f j)) 0 (level_at ix f) k k 0 (omega arith) (omega arith))));
      one = λ cells x single is_x.
          answered_by _ _ _
          (rw (level_in ix cells f) (sym (take_may (level_at ix f) f 1 h.fibre (omega arith))))
          (ap (λ l. get_or l 0 0) (list_of ix cells f [] h.fibre)
          ∙ get_or-map-range_with_len (λ j. cells (place ix f j)) 0 (level_at ix f) 0 0 0 (omega arith) refl ∙ ap cells (sym is.place) ∙ sym is_x);
      inside = stretch_inside ix f 0 n s h.fibre (omega arith) is;
      room = h.room;
    }
