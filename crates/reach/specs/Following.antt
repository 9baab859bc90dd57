-- "Any Sweep of the tables as Stamp left them, finished or stopped": the calls that may follow the Stamp. Assumes nothing: these are definitions.
use mathlib.Core.List.{List, Memᴰ}
use Rattle.call_lists.specs.Lists.{Call, propagate, merge, stamp, failed, sweep, programme, Step}

-- Sweep, whatever its step count. Failed and the call that sets a programme change no clause and leave the stamps, so they may stand in between
abbrev pub Follows : Call → Type 0
Follows (propagate steps) = ⊥
Follows (merge steps) = ⊥
Follows (stamp order) = ⊥
Follows failed = Unit
Follows (sweep steps) = Unit
Follows (programme codes) = Unit

-- a list of them, each with the parts of the tables that it is lent
abbrev pub Following : List Step → Type 0
Following ss = (s : Step) → Memᴰ s ss → Follows s.call
