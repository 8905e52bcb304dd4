-- Why twelve rings are a store: there are twelve lists, none longer than the capacity, and all that waits are bytes.
-- Assumes nothing.
use Rattle.std.specs.Prelude.{◌≡◌, ℕ, ◌<◌, List, [], length, slice_index_or}
use Rattle.std.proofs.Common.{sym, ap, ◌∙◌, ⊎_elim, arith}
use Rattle.std.proofs.lemmas.List.{get_or_past}
use Rattle.std.proofs.ByRecursion.{All-from_get_or}
use Rattle.std.proofs.lemmas.List.FromFn.{length-map-range_with_len, get_or-map-range_with_len}
use Rattle.std.proofs.lemmas.Bool.{cases_lt}
use Rattle.stores.specs.declared.index.Index.{Index}
use Rattle.stores.specs.Store.{waiting, level_of, Bytes, Sound}
use Rattle.stores.specs.declared.queue.Queue.{Queue}
use Rattle.stores.specs.Queues.{no_byte}
use Rattle.stores.specs.Places.{place, ring, level_at, lists_in}

pub list_of : (ix : Index) (cells : ℕ → ℕ) (f : ℕ) (d : List ℕ) → f < 12 → slice_index_or (lists_in ix cells) f d ≡ ring ix cells f
unfolding lists_in
list_of ix cells f d h = get_or-map-range_with_len (ring ix cells) 0 12 f f d h (omega arith)

pub length_lists : (ix : Index) (cells : ℕ → ℕ) → length (lists_in ix cells) ≡ 12
unfolding lists_in
length_lists ix cells = length-map-range_with_len (ring ix cells) 0 12

pub level_in : (ix : Index) (cells : ℕ → ℕ) (f : ℕ) → level_of (lists_in ix cells) f ≡ level_at ix f
level_in ix cells f =
    let n = level_at ix f in
    let twelve = length_lists ix cells in
    let longs = ix.twelve in
    ⊎_elim
    (λ h. ap length (list_of ix cells f [] h) ∙ length-map-range_with_len (λ k. cells (place ix f k)) 0 n)
    (λ h. ap length (get_or_past (lists_in ix cells) f [] (omega arith)) ∙ ap (λ (q : Queue). q.level) (sym (get_or_past ix.queues f no_byte (omega arith))))
    (cases_lt f 12)

pub bytes_in : (ix : Index) (cells : ℕ → ℕ) (f : ℕ) → ((q : ℕ) → cells q < 256) → Bytes (waiting (lists_in ix cells) f)
bytes_in ix cells f small =
    let twelve = length_lists ix cells in
    ⊎_elim
    (λ h.
    rw (list_of ix cells f [] h)
    (let n = length-map-range_with_len (λ k. cells (place ix f k)) 0 (level_at ix f) in
    All-from_get_or (λ b. b < 256) (ring ix cells f) 0
    (λ k l. rw (get_or-map-range_with_len (λ j. cells (place ix f j)) 0 (level_at ix f) k k 0 (omega arith) (omega arith)) (small (place ix f k)))))
    (λ h. rw (get_or_past (lists_in ix cells) f [] (omega arith)) tt)
    (cases_lt f 12)

pub rings_sound : (ix : Index) (cells : ℕ → ℕ) → ((q : ℕ) → cells q < 256) → Sound ix.capacity (lists_in ix cells)
rings_sound ix cells small =
    record {
      twelve = length_lists ix cells;
      within = λ f. rw (level_in ix cells f) (ix.levels f);
      limit = ix.limit;
      bytes = λ f. bytes_in ix cells f small;
    }
