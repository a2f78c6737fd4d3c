-- The laws over every run.
use Rattle.sl_defs.specs.declared.setup.Setup.{Setup}
use Rattle.sl_history.specs.Turns.{History}
use Rattle.sl_machine.specs.World.{World}
use Rattle.sl_machine.specs.Runs.{Run}
use Rattle.sl_transport.specs.Flying.{FliesAlike, FlyWhenNamed, AreNumbered}
use Rattle.sl_transport.specs.Moments.{MomentsRise}
use Rattle.sl_transport.specs.Acting.{AreUpAlike, SendRightly}
use Rattle.sl_transport.specs.Answering.{AnswersAnswer}
use Rattle.sl_transport.specs.Kinds.{OnlyTheProxyAsks}

abbrev pub FramesFlyAlike : Type 0
FramesFlyAlike = (setup : Setup) (h : History) (w : World) → Run setup h w → FliesAlike h w

abbrev pub FramesAreGivenInFlight : Type 0
FramesAreGivenInFlight = (setup : Setup) (h : History) (w : World) → Run setup h w → FlyWhenNamed h

abbrev pub FramesAreNumbered : Type 0
FramesAreNumbered = (setup : Setup) (h : History) (w : World) → Run setup h w → AreNumbered h

abbrev pub AllMomentsRise : Type 0
AllMomentsRise = (setup : Setup) (h : History) (w : World) → Run setup h w → MomentsRise h w

abbrev pub ActorsAreUpAlike : Type 0
ActorsAreUpAlike = (setup : Setup) (h : History) (w : World) → Run setup h w → AreUpAlike h w

abbrev pub FramesAreSentByActors : Type 0
FramesAreSentByActors = (setup : Setup) (h : History) (w : World) → Run setup h w → SendRightly h

abbrev pub AnswersAnswerRequests : Type 0
AnswersAnswerRequests = (setup : Setup) (h : History) (w : World) → Run setup h w → AnswersAnswer h

abbrev pub TheProxyAloneAsks : Type 0
TheProxyAloneAsks = (setup : Setup) (h : History) (w : World) → Run setup h w → OnlyTheProxyAsks h
