-- The worked examples of every layer.
-- Assumes nothing.
use Rattle.settings.specs.Examples as settings
use Rattle.synch.specs.Laws as synch
use Rattle.strips.specs.Examples as strips
use Rattle.rules.specs.Rules as rules
use Rattle.layout.specs.Laws as layout
use Rattle.reader.specs.Examples as reader

pub record WorkedExamples : Type 0 where
  -- setting words that are taken, and words that are refused with 2, 3, 5 and 6
  pub setting_words : settings.WorkedExamples
  -- how many pulses make an event
  pub pulses : synch.WorkedExamples
  -- strips at places, flat and reduced values, clusters
  pub strip_values : strips.WorkedExamples
  -- ranks and the mean of four values
  pub common_modes : rules.WorkedExamples
  -- a record byte by byte
  pub records_written : layout.WorkedExamples
  -- and read back
  pub records_read : reader.WorkedExamples
