-- The words in which a damaged run is told of.
-- Assumes nothing.
use Rattle.std.specs.Prelude.{ℕ, ◌+◌, List, ◌++◌, codes}
use Rattle.std.specs.Fmt.{decimal}
use Rattle.faults.specs.Faults.{fault_number, fault_layer, fault_offset}
use Rattle.faults.specs.Texts.{layer_text, event_text}
use Rattle.keep.specs.declared.damage.Damage.{Damage}

-- the offset of the fault in the file
abbrev pub file_offset : Damage → ℕ
file_offset d = d.start + fault_offset d.fault

-- which fault it is: its number, its layer, and what it means
abbrev pub fault_text : Damage → List ℕ
fault_text d =
    codes "fault "
    ++ (decimal (fault_number d.fault)
    ++ (codes " (" ++ (layer_text (fault_layer d.fault) ++ (codes "): " ++ event_text d.fault))))

-- where it is: its offset in its event, and in the file
abbrev pub place_text : Damage → List ℕ
place_text d =
    codes ", at byte "
    ++ (decimal (fault_offset d.fault)
    ++ (codes " of event " ++ (decimal d.event ++ (codes ", byte " ++ (decimal (file_offset d) ++ codes " of the file")))))

abbrev pub damage_text : Damage → List ℕ
damage_text d = fault_text d ++ place_text d
