use Rattle.worked_examples.proofs.worked_examples_stand.Goals as goal

pub returns : goal.returns
returns c =
    record {
      setting_words = c.examples_stand.ensures;
      pulses = c.examples_stand-2.ensures;
      strip_values = c.examples_stand-3.ensures;
      common_modes = c.examples_stand-4.ensures;
      records_written = c.worked_examples_stand.ensures;
      records_read = c.worked_examples_stand-2.ensures;
    }
