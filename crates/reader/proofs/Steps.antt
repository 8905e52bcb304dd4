-- One step of each reader: what its questions come to where they are answered yes.
-- Assumes nothing.
use Rattle.std.proofs.Common.{◌≡◌, ℕ, suc, ◌+◌, ◌-◌, ◌≤◌, Bool, true, false, List, [], ◌∷◌, length, get_or, drop, Some, Ok, Err, Option, Result, sym, refl, ap, ◌∙◌, ap₂, arith}
use Rattle.layout.specs.declared.kind.Kind.{Kind}
use Rattle.layout.specs.declared.run.Run.{Run}
use Rattle.std.specs.Option.{option_map}
use Rattle.layout.specs.Event.{Cluster, run_of, Content, code}
use Rattle.faults.specs.declared.fault.RecordFault.{RecordFault}
use Rattle.reader.specs.Questions.{ask, ok_map, err_map, verdict, number_in, read_cluster, read_clusters, read_record, read_records, and_then, Walked, ends_at, with_content}
use Rattle.reader.specs.declared.event.reading.RecordReader.{RecordReader}
use Rattle.reader.specs.Walks.{ends, Passed}
use Rattle.reader.proofs.Asks.{err_ok}
use Rattle.faults.specs.declared.fault.EventFault.TheVariants as events
use Rattle.reader.proofs.Walk.{next_cluster, record_at, seven}

-- a question that is answered yes
pub asked : {A E : Type 0} (b : Bool) (e : E) (r : Result A E) → b ≡ true → ask b e r ≡ r
asked b e r h = rw h

-- a question that is answered no
pub refused : {A E : Type 0} (b : Bool) (e : E) (r : Result A E) → b ≡ false → ask b e r ≡ Err e
refused b e r h = rw h

pub verdict_map : {A B E : Type 0} (f : A → B) (r : Result A E) → verdict (ok_map f r) ≡ verdict r
verdict_map f (Ok x) = refl
verdict_map f (Err e) = refl

-- one cluster is read: the walk goes on behind it
pub clusters_next : (b : Option Run) (at : ℕ) (xs : List ℕ) (c : Cluster) → read_cluster b at xs ≡ Ok c → verdict (read_clusters 0 b at xs) ≡ verdict (read_clusters 0 (Some (run_of c)) (at + (2 + length c.values)) (drop (2 + length c.values) xs))
clusters_next b at xs c h = ap verdict (next_cluster b at xs c h).1 ∙ verdict_map _ _

-- a content that was read without a fault
pub content_from : {E : Type 0} (r : Result Content E) → Ok tt ≡ verdict r → (c : Content) × (r ≡ Ok c)
content_from (Ok c) h = (c, refl)
content_from (Err e) h = absurd (err_ok e tt (sym h))

end_map : {E : Type 0} (c : Content) (r : Result Walked E) → ok_map ends_at (ok_map (with_content c) r) ≡ ok_map ends_at r
end_map c (Ok w) = refl
end_map c (Err e) = refl

-- what lies behind a record's three header bytes
abbrev pub record_there : Option ℕ → ℕ → List ℕ → Result Content RecordFault
record_there first at xs = read_record first at (number_in (get_or xs 0 0) (get_or xs 1 0)) (get_or xs 2 0) (drop 3 xs)

-- one record is read: the walk goes on behind it
pub records_next : (n m : ℕ) (first : Option ℕ) (at : ℕ) (xs : List ℕ) → n ≡ suc m → 3 ≤ length xs → Ok tt ≡ verdict (record_there first at xs) → ok_map ends_at (read_records n first at xs) ≡ ok_map ends_at (read_records m (Some (get_or xs 2 0)) (at + number_in (get_or xs 0 0) (get_or xs 1 0)) (drop (number_in (get_or xs 0 0) (get_or xs 1 0)) xs))
records_next n m first at [] e l h = absurd (omega arith)
records_next n m first at (a ∷ []) e l h = absurd (omega arith)
records_next n m first at (a ∷ b ∷ []) e l h = absurd (omega arith)
records_next n m first at (lo ∷ hi ∷ c ∷ xs) e l h =
    let size : ℕ = number_in lo hi in
    let got = content_from (read_record first at size c xs) h in
    let is = record_at first at size c xs got.0 got.1 in
    let three : 3 ≤ size = omega (arith, seven is.kind, is.from_shortest) in
    let split : suc (suc (suc (size - 3))) ≡ size = omega arith in
    ap (λ k. ok_map ends_at (read_records k first at (lo ∷ hi ∷ c ∷ xs))) e
    ∙ (ap (λ r. ok_map ends_at (and_then (err_map events.Record r) (λ d. ok_map (with_content d) (read_records m (Some c) (at + size) (drop (size - 3) xs))))) got.1
    ∙ (end_map got.0 (read_records m (Some c) (at + size) (drop (size - 3) xs))
    ∙ ap (λ k. ok_map ends_at (read_records m (Some c) (at + size) (drop k (lo ∷ hi ∷ c ∷ xs)))) split))

-- one record is passed over with all its bytes
pub record_passed :
    (first : Option Kind) (old new : RecordReader) (size : ℕ) (kind : Kind) →
    3 ≤ length old.left.bytes.now →
    size ≡ number_in (get_or old.left.bytes.now 0 0) (get_or old.left.bytes.now 1 0) →
    Ok tt ≡ verdict (record_there (option_map code first) old.left.at old.left.bytes.now) →
    get_or old.left.bytes.now 2 0 ≡ code kind →
    ((f : Kind) → first ≡ Some f → kind ≡ f) →
    new.left.bytes.now ≡ drop size old.left.bytes.now →
    new.left.at ≡ old.left.at + size →
    Passed first old new kind
record_passed first old new size kind long said there is same left at =
    let xs : List ℕ = old.left.bytes.now in
    let codes : Option ℕ = option_map code first in
    let next : (n : ℕ) → ends (suc n) first old ≡ ok_map ends_at (read_records n (Some (code kind)) (old.left.at + size) (drop size xs)) = λ n. records_next (suc n) n codes old.left.at xs refl long there ∙ ap₂ (λ k c. ok_map ends_at (read_records n (Some c) (old.left.at + k) (drop k xs))) (sym said) is in
    record {
      others = λ n. next n ∙ ap₂ (λ a ys. ok_map ends_at (read_records n (Some (code kind)) a ys)) (sym at) (sym left);
      code_is = is;
      same = same;
    }
