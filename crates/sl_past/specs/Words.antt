-- What the program's happenings and remarks stand for.
use Rattle.sl_defs.specs.Histories as histories
use Rattle.sl_history.specs.Turns as turns
use Rattle.sl_past.specs.declared.happening.Happening.{Happening}
use Rattle.sl_past.specs.declared.happening.Happening.TheVariants as happening
use Rattle.sl_past.specs.declared.remark.Remark.{Remark}
use Rattle.sl_past.specs.declared.remark.Remark.TheVariants as remark

abbrev pub happening_of : Happening → histories.Happening
happening_of (happening.Opens setup) = histories.Opens setup
happening_of (happening.Reaches moment) = histories.Reaches moment
happening_of (happening.Happens event) = histories.Happens event

abbrev pub remark_of : Remark → turns.Remark
remark_of (remark.Sent number frame) = turns.Sent number frame
remark_of (remark.Did arrival at choice) = turns.Did arrival at choice
remark_of (remark.Flush fileid) = turns.Flush fileid
remark_of (remark.Verf verifier) = turns.Verf verifier
remark_of (remark.Replied arrival event bytes) = turns.Replied arrival event bytes
remark_of (remark.Junk arrival) = turns.Junk arrival
remark_of (remark.Early arrival) = turns.Early arrival
remark_of (remark.Full arrival) = turns.Full arrival
remark_of (remark.Lost arrival) = turns.Lost arrival
remark_of (remark.Down actor) = turns.Down actor
