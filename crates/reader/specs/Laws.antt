-- What the reader's questions amount to, in the words of the layout.
-- Assumes nothing.
use Rattle.std.specs.Prelude.{◌≡◌, ℕ, List, ◌++◌, length, take, drop, Some, None, Ok, Err}
use Rattle.std.specs.List.{flat_map, AllByRecursion}
use Rattle.layout.specs.Event.{Event, EventOk, Byte, bytes_of}
use Rattle.faults.specs.declared.fault.EventFault.{EventFault}
use Rattle.reader.specs.Questions.{read_first, read_event, survey}

-- these bytes stand for this event of the layout
abbrev pub StandsFor : List ℕ → Event → Type 0
StandsFor bs e = EventOk e × (bytes_of e ≡ bs)

-- exactly the layout is accepted: the event that is read is the one, and the only one, that the bytes stand for
abbrev pub ExactlyTheLayout : Type 0
ExactlyTheLayout = (bs : List ℕ) (e : Event) → AllByRecursion Byte bs → (read_event bs ≡ Ok e → StandsFor bs e) × (StandsFor bs e → read_event bs ≡ Ok e)

-- the same of the first event of a longer input: n bytes are those of an event, whatever follows
abbrev pub ExactlyInFront : Type 0
ExactlyInFront =
    (bs : List ℕ) (e : Event) (n : ℕ) →
    AllByRecursion Byte bs →
    (read_first bs ≡ Ok (e, n) → StandsFor (take n bs) e × (n ≡ length (bytes_of e)))
    × (StandsFor (take n bs) e → n ≡ length (bytes_of e) → read_first bs ≡ Ok (e, n))

-- what was written comes back, whatever follows it
abbrev pub ComesBack : Type 0
ComesBack = (e : Event) (rest : List ℕ) → EventOk e → read_first (bytes_of e ++ rest) ≡ Ok (e, length (bytes_of e))

-- a run is these events of the layout, one after the other
abbrev pub RunOf : List ℕ → List Event → Type 0
RunOf bs es = AllByRecursion EventOk es × (flat_map bytes_of es ≡ bs)

-- all of a stored run is read if and only if it is events one after the other, and then they are those
abbrev pub ExactlyTheRun : Type 0
ExactlyTheRun =
    (bs : List ℕ) (es : List Event) →
    AllByRecursion Byte bs →
    (((survey 0 0 bs).fault ≡ None) × ((survey 0 0 bs).events ≡ es) → RunOf bs es)
    × (RunOf bs es → ((survey 0 0 bs).fault ≡ None) × ((survey 0 0 bs).events ≡ es))

-- a damaged run: the events before the damage are a run, and the fault is that of what follows them
abbrev pub UpToTheDamage : Type 0
UpToTheDamage =
    (bs : List ℕ) (f : EventFault) →
    AllByRecursion Byte bs →
    (survey 0 0 bs).fault ≡ Some f →
    RunOf (take (survey 0 0 bs).end bs) (survey 0 0 bs).events × (read_first (drop (survey 0 0 bs).end bs) ≡ Err f)
