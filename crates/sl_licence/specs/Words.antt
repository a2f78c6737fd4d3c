-- Of which file a call is an unstable WRITE.
use Rattle.std.specs.Prelude.{ℕ, Option, Some, None}
use Rattle.sl_types.specs.declared.call.Call.{Call}
use Rattle.sl_types.specs.declared.call.Call.TheVariants as call
use Rattle.sl_types.specs.declared.call.Stable.TheVariants as stable
use Rattle.sl_types.specs.Handles.{handle_of}
use Rattle.sl_history.specs.Arrivals.{fileid_of}

abbrev pub written_unstable : Call → Option ℕ
written_unstable (call.Write file offset count stable.Unstable bytes) = Some (fileid_of (handle_of file))
written_unstable other = None
