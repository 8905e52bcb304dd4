-- The bytes of twelve fibres in their rings.
-- Assumes nothing.
use Rattle.std.specs.Prelude.{ℕ, List, slice_index_or}
use Rattle.stores.specs.declared.queue.Queue.{Queue}

-- no byte waits
abbrev pub no_byte : Queue
no_byte = record { start = 0; level = 0 }

-- the bytes of a fibre
abbrev pub queue_at : List Queue → ℕ → Queue
queue_at queues f = slice_index_or queues f no_byte
