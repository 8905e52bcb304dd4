-- Every command keeps the limits, since its parts do.
use Rattle.call_script.specs.Commands.{SmallMemory, SmallCall, KeepsLimits}
use Rattle.call_script.specs.declared.command.Memory.{Memory}
use Rattle.call_script.specs.declared.command.Memory.TheVariants as memories
use Rattle.call_script.specs.declared.command.CardCall.{CardCall}
use Rattle.call_script.specs.declared.command.CardCall.TheVariants as calls
use Rattle.call_script.specs.declared.command.Command.{Command}
use Rattle.call_script.specs.declared.command.Command.TheVariants as commands

pub small_memory : (m : Memory) → SmallMemory m
small_memory (memories.Bytes n) = n.within
small_memory (memories.Words n) = n.within

pub small_call : (c : CardCall) → SmallCall c
small_call (calls.Load w) = tt
small_call (calls.Clock n s) = n.within
small_call calls.Ask = tt
small_call (calls.Fetch n) = n.within
small_call calls.GiveBack = tt
small_call (calls.Level f) = tt
small_call calls.Reset = tt

pub keeps_limits : (c : Command) → KeepsLimits c
keeps_limits (commands.Card m r) = small_memory m
keeps_limits commands.Swap = tt
keeps_limits (commands.OfCard c) = small_call c
keeps_limits (commands.Store m) = small_memory m
keeps_limits (commands.OfStore c) = tt
keeps_limits (commands.Rule r) = tt
keeps_limits (commands.Estimate c s vs) = vs.few
keeps_limits (commands.Unpack bs) = tt
keeps_limits commands.UnpackLast = tt
keeps_limits (commands.OfEvent q) = tt
