-- What an actor does by itself it does in the world too.
use Rattle.std.proofs.Common.{[], ◌∷◌, ◌++◌, refl}
use Rattle.sl_machine.specs.World.{after_segment, played, told}
use Rattle.sl_world.specs.Acting.{StepsArePlayed}
use Rattle.sl_world.proofs.Maps.{got_here}

pub steps_are_played : StepsArePlayed
steps_are_played w i a after [] [] n is acts = (refl, refl, refl)
steps_are_played w i a after (t ∷ todo) (s ∷ ss) n is acts =
    (a, is, acts.0, steps_are_played (played w i a s) i (after_segment a s) after (s.todo ++ todo) ss (told w s n) (got_here w.actors i (after_segment a s)) acts.1)
steps_are_played w i a after [] (s ∷ ss) n is acts = absurd acts
steps_are_played w i a after (t ∷ todo) [] n is acts = absurd acts
