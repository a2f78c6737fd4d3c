-- That a shelf which tells nothing keeps to what every device call keeps to.
use Rattle.std.proofs.Common.{◌≡◌, ℕ, ◌<◌, List, length, slice_index, set, refl, sym, ap, subst, arith, Result, Ok, Err}
use Rattle.std.proofs.lemmas.List.{get_or-set_same, get_or-set_other}
use Rattle.sl_disk.specs.Shelf.{Elapses, Called, Rose, Told}
use Rattle.sl_disk.specs.Blind.{blind, Blames, not_modelled}
use Rattle.sl_disk.specs.declared.shelf.ShelfFault.{ShelfFault}
use Rattle.sl_disk.specs.declared.shelf.ShelfFault.TheVariants.{Failed, Stopped, NoMemory}

pub blind_elapses : (faults later : List ℕ) → Elapses (blind faults) (blind later)
blind_elapses faults later = record {
  later = omega arith;
  nothing_else = λ d t c le left. absurd left;
  keeps = λ d t c le left. left;
  no_others_together = λ t f le left. absurd left;
  keeps_together = λ t f le left. left;
}

blind_same : {T : Type 0} (disk : ℕ) (faults : List ℕ) (x : T) → Called disk (blind faults) (blind faults) (let r : Result T ShelfFault = Ok x in r)
blind_same disk faults x = record {
  others = record { told = λ d other. refl; images = λ d other c. (λ p. p, λ p. p) };
  time = blind_elapses faults faults;
  counts = record { faults = refl; stops = refl };
  script = record { model = refl; arms = refl; last_arm = refl; crashes = refl; last_crash = refl };
  armed = λ modelled. not_modelled modelled;
  no_memory = λ none. record { told = refl; images = λ c. (λ p. p, λ p. p) };
}

blind_none : {T : Type 0} (disk : ℕ) (faults : List ℕ) → Called disk (blind faults) (blind faults) (let r : Result T ShelfFault = Err NoMemory in r)
blind_none disk faults = record {
  others = record { told = λ d other. refl; images = λ d other c. (λ p. p, λ p. p) };
  time = blind_elapses faults faults;
  counts = record { faults = refl; stops = refl };
  script = record { model = refl; arms = refl; last_arm = refl; crashes = refl; last_crash = refl };
  armed = λ modelled. not_modelled modelled;
  no_memory = λ none. record { told = refl; images = λ c. (λ p. p, λ p. p) };
}

blind_failed : {T : Type 0} (disk : ℕ) (faults : List ℕ) (count : ℕ) → disk < length faults → Rose (slice_index faults disk) count → Called disk (blind faults) (blind (set faults disk count)) (let r : Result T ShelfFault = Err Failed in r)
blind_failed disk faults count known rose =
    let here : slice_index (set faults disk count) disk ≡ count = get_or-set_same faults disk count 0 known in
    record {
      others = record {
        told = λ d other. ap (λ (n : ℕ). let t : Told = record ((blind faults).disk d) { faults = n } in t) (get_or-set_other faults disk d count 0 other);
        images = λ d other c. (λ p. p, λ p. p);
      };
      time = blind_elapses faults (set faults disk count);
      counts = (subst (Rose (slice_index faults disk)) (sym here) rose, refl);
      script = record { model = refl; arms = refl; last_arm = refl; crashes = refl; last_crash = refl };
      armed = λ modelled. not_modelled modelled;
      no_memory = λ none. absurd (cc);
    }

pub blind_called : {T : Type 0} (disk : ℕ) (faults later : List ℕ) (result : Result T ShelfFault) → disk < length faults → Blames disk faults later result → Called disk (blind faults) (blind later) result
blind_called {T} disk faults later (Ok x) known same = subst (λ (l : List ℕ). Called disk (blind faults) (blind l) (let r : Result T ShelfFault = Ok x in r)) (sym same) (blind_same disk faults x)
blind_called {T} disk faults later (Err Failed) known blames =
    subst (λ (l : List ℕ). Called disk (blind faults) (blind l) (let r : Result T ShelfFault = Err Failed in r)) (sym blames.2) (blind_failed disk faults blames.0 known blames.1)
blind_called {T} disk faults later (Err Stopped) known blames = absurd blames
blind_called {T} disk faults later (Err NoMemory) known same = subst (λ (l : List ℕ). Called disk (blind faults) (blind l) (let r : Result T ShelfFault = Err NoMemory in r)) (sym same) (blind_none disk faults)
