-- What the directory server does for a forwarded GETATTR, where it has the root alone.
use Rattle.std.proofs.Common.{◌≡◌, ℕ, ◌<◌, ◌^◌, ◌&&◌, Bool, true, false, List, [], ◌∷◌, ◌++◌, Option, Some, None, refl, sym, ap, subst, ◌∙◌, arith, if◌then◌else◌}
use Rattle.std.specs.Prelude.{nat_lt}
use Rattle.std.specs.FinMap.{get}
use Rattle.sl_defs.specs.declared.setup.Setup.{Setup}
use Rattle.sl_types.specs.declared.call.Call.{Call}
use Rattle.sl_types.specs.declared.call.Call.TheVariants as call
use Rattle.sl_types.specs.declared.handle.Handle.{Handle}
use Rattle.sl_types.specs.declared.reply.Reply.TheVariants as reply
use Rattle.sl_records.specs.declared.directory.DirRecord.TheVariants as dir
use Rattle.sl_frames.specs.declared.frame.Frame.{Frame}
use Rattle.sl_frames.specs.declared.body.Body.TheVariants as body
use Rattle.sl_history.specs.Turns.{Remark}
use Rattle.sl_history.specs.Turns as note
use Rattle.sl_history.specs.Arrivals.{Asked, asked_in, datagram, answer_to, is_changing}
use Rattle.sl_machine.specs.Records.{Record, OfDir, cells_of, locked_in, last_finished}
use Rattle.sl_machine.specs.Memory.{Site, Memory, Actor, OfSite}
use Rattle.sl_machine.specs.World.{World, Scene, Given, Segment, Told, nothing, scene, played, told, after_segment, quiet}
use Rattle.sl_machine.specs.Verdicts.{OldFence, BelowLow, Answers, verdict, for_directory, seen, renewed, answering, kept_or}
use Rattle.sl_machine.specs.Directories.{serves, looks, does_call, packet_of, forwarded_choice, by_verdict, admits, done_for}
use Rattle.sl_machine.specs.Directories as directories
use Rattle.sl_machine.specs.Packets.{outer_call}
use Rattle.sl_machine.specs.Runs.{May, Steps}
use Rattle.sl_transport.proofs.Kept.{kept_seen, kept_renewed}
use Rattle.sl_getattr.proofs.Stepping.{Begun, Does, Falls, Spends, begun, not_none, directory_row, no_directory}
use Rattle.sl_getattr.proofs.Maps.{has_put}
use Rattle.sl_getattr.proofs.Looking.{look_by, root_alone, root_is_seen}
use Rattle.sl_getattr.proofs.Sound.{NothingKept, IsDirectory, AsksFor}
use Rattle.sl_getattr.proofs.Tales.{IsPlain}
use Rattle.sl_getattr.proofs.Licensing.{AreHarmless}
use Rattle.sl_getattr.proofs.Counting.{IsCalm, AreDowns}
use Rattle.sl_getattr.proofs.Doing.{Did, did_last, did_then, did_fall}
use Rattle.sl_getattr.proofs.Rows.{DirectoryOnFrame, DirectoryRenews, DirectoryAdmits, directory_given}

-- ---- how the step ends

abbrev pub IsDirectoryIf : Setup → Option Memory → List Record → Type 0
IsDirectoryIf s (Some (OfSite m)) rs = IsDirectory s m rs
IsDirectoryIf s other rs = Unit {0}

-- the answer to a request about this handle
pub record IsAnswerTo (s : Setup) (f : Frame) (h : Handle) (g : Frame) : Type 0 where
  pub to : g.to ≡ f.from
  pub from : g.from ≡ 16
  pub tag : g.tag ≡ f.tag
  pub fence : g.fence ≡ f.fence
  pub op : g.op ≡ f.op
  pub small : h.volume < 2 ^ 64
  pub asked : Asked
  pub fits : asked.xid < 2 ^ 32
  pub is : g.«body» ≡ body.Packet (answer_to asked (reply.Getattr (look_by s.volume (Some h))))

-- what it sends: nothing, or that answer
pub data Sends (s : Setup) (f : Frame) (h : Handle) (fs : List Frame) : Type 0 where
  Nothing : fs ≡ [] → Sends s f h fs
  OneAnswer : (g : Frame) → IsAnswerTo s f h g → fs ≡ g ∷ [] → Sends s f h fs

pub record Served (s : Setup) (f : Frame) (h : Handle) (w : World) (n : Told) (w' : World) (n' : Told) : Type 0 where
  pub memory : Option Memory
  pub records : List Record
  pub frames : List Frame
  pub notes : List Remark
  pub did : Did 16 w n w' n' memory records frames notes
  pub sound : IsDirectoryIf s memory records
  pub sends : Sends s f h frames
  pub plain : IsPlain notes
  pub calm : IsCalm notes
  pub downs : AreDowns notes
  pub harmless : AreHarmless notes

-- these frames are sent, and nothing else is done
abbrev replies : Site → List Frame → Segment
replies m fs = record { append = None; memory = OfSite m; frames = fs; notes = []; todo = [] }

record Replying (s : Setup) (f : Frame) (h : Handle) (m : Site) (z : Segment) : Type 0 where
  frames : List Frame
  sends : Sends s f h frames
  is : z ≡ replies m frames

-- a packet about this handle, if it is a call
abbrev pub IsAbout : List ℕ → Handle → Type 0
IsAbout packet h = (q : Asked) → asked_in (datagram packet) ≡ Some q → AsksFor q h

module _ (s : Setup) (x : Scene) (a : Actor) (f : Frame) (h : Handle) (here : x.actor ≡ 16) where
  silent : (m : Site) → Replying s f h m (quiet (OfSite m) [])
  silent m = record { frames = []; sends = Nothing refl; is = refl }

  asks_only : (c : Call) (object : List ℕ) → c ≡ call.Getattr object → is_changing (outer_call c) ≡ false
  asks_only c object is = rw is refl

  answers_call : (m : Site) (chosen : ℕ) (q : Asked) → AsksFor q h → cells_of a.records ≡ root_alone s.volume → Replying s f h m (serves x m f chosen (cells_of a.records) (Some q))
  answers_call m chosen q about cells = record {
    frames = answering x.actor 0 f (body.Packet (answer_to q (reply.Getattr (look_by s.volume (Some h))))) ∷ [];
    sends = OneAnswer (answering x.actor 0 f (body.Packet (answer_to q (reply.Getattr (look_by s.volume (Some h)))))) (record { to = refl; from = here; tag = refl; fence = refl; op = refl; small = about.small; asked = q; fits = about.fits; is = refl }) refl;
    is = ap (λ c. serves x m f chosen c (Some q)) cells
        ∙ ap (λ b. if b then does_call x m f chosen q (root_alone s.volume) (forwarded_choice chosen) else looks x m f q (root_alone s.volume) (forwarded_choice chosen)) (asks_only q.call about.object about.is)
        ∙ ap (λ r. replies m (answering x.actor 0 f (body.Packet (packet_of x.actor q r)) ∷ [])) (root_is_seen s.volume q about.object x.moment (forwarded_choice chosen) about.is)
        ∙ ap (λ o. replies m (answering x.actor 0 f (body.Packet (answer_to q (reply.Getattr (look_by s.volume o)))) ∷ [])) about.spelled;
  }

  answers_packet : (m : Site) (chosen : ℕ) (packet : List ℕ) → IsAbout packet h → cells_of a.records ≡ root_alone s.volume
      → Replying s f h m (serves x m f chosen (cells_of a.records) (asked_in (datagram packet)))
  answers_packet m chosen packet about cells = by (asked_in (datagram packet)) about
    where
      by : (o : Option Asked) → ((q : Asked) → o ≡ Some q → AsksFor q h) → Replying s f h m (serves x m f chosen (cells_of a.records) o)
      by None about = silent m
      by (Some q) about = answers_call m chosen q (about q refl) cells

  -- ---- the verdict

  none_kept : (m : Site) (tag : ℕ) → NothingKept m → get m.kept tag ≡ None
  none_kept m tag nothing = by (get m.kept tag) refl
    where
      by : (o : Option Frame) → get m.kept tag ≡ o → o ≡ None
      by None is = refl
      by (Some g) is = absurd (nothing tag g is)

  verdict_is : (m : Site) (chosen last : ℕ) (packet : List ℕ) → f.«body» ≡ body.Forward chosen packet → NothingKept m
      → verdict for_directory None last m f ≡ (if nat_lt f.fence m.fence && true then OldFence else (if nat_lt f.tag m.low then BelowLow else Answers))
  unfolding verdict
  verdict_is m chosen last packet is nothing =
      rw is (ap (λ o. if nat_lt f.fence m.fence && true then OldFence else kept_or o (if nat_lt f.tag m.low then BelowLow else Answers)) (none_kept m f.tag nothing))

  by_tests : (m : Site) (chosen : ℕ) (packet : List ℕ) → f.«body» ≡ body.Forward chosen packet → IsAbout packet h → cells_of a.records ≡ root_alone s.volume → (older below : Bool)
      → Replying s f h m (by_verdict x a m f (if older then OldFence else (if below then BelowLow else Answers)))
  by_tests m chosen packet is about cells true below = silent m
  by_tests m chosen packet is about cells false true = silent m
  by_tests m chosen packet is about cells false false = subst (λ b. Replying s f h m (done_for x a m f b)) (sym is) (answers_packet m chosen packet about cells)

  admits_packet : (m : Site) (chosen : ℕ) (packet : List ℕ) → f.«body» ≡ body.Forward chosen packet → IsAbout packet h → IsDirectory s m a.records → Replying s f h m (admits x a m f)
  admits_packet m chosen packet is about sound =
      subst (λ l. Replying s f h m (by_verdict x a m f (verdict for_directory l (last_finished a.records) m f))) (sym sound.unlocked)
      (subst (λ v. Replying s f h m (by_verdict x a m f v)) (sym (verdict_is m chosen (last_finished a.records) packet is sound.kept))
      (by_tests m chosen packet is about sound.cells (nat_lt f.fence m.fence && true) (nat_lt f.tag m.low)))

seen_sound : (s : Setup) (f : Frame) (m : Site) (rs : List Record) → IsDirectory s m rs → IsDirectory s (seen f m) rs
seen_sound s f m rs sound = record { kept = kept_seen (λ g. ⊥) f m sound.kept; cells = sound.cells; unlocked = sound.unlocked }

-- ---- a frame of a greater fence: the fence is recorded first

abbrev recorded : Site → Frame → ℕ → Segment
recorded m f e = record { append = Some (OfDir (dir.Fence f.fence)); memory = OfSite (renewed f m); frames = []; notes = []; todo = Given f e ∷ [] }

recorded_sound : (s : Setup) (m : Site) (f : Frame) (rs : List Record) → IsDirectory s m rs → IsDirectory s (renewed f m) (OfDir (dir.Fence f.fence) ∷ rs)
unfolding cells_of locked_in
recorded_sound s m f rs sound = record { kept = kept_renewed (λ g. ⊥) f m; cells = sound.cells; unlocked = rw sound.unlocked refl }

-- ---- steps

served_then : (s : Setup) (f : Frame) (h : Handle) (w : World) (n : Told) (a : Actor) (z : Segment) (w' : World) (n' : Told) → z.frames ≡ [] → z.notes ≡ []
    → Served s f h (played w 16 a z) (told w z n) w' n' → Served s f h w n w' n'
served_then s f h w n a z w' n' silent unnoted later = record {
  memory = later.memory;
  records = later.records;
  frames = later.frames;
  notes = later.notes;
  did = subst (λ rs. Did 16 w n w' n' later.memory later.records later.frames rs) (ap (λ rs. rs ++ later.notes) unnoted)
      (did_then 16 w n a z w' n' later.memory later.records later.frames later.notes silent later.did);
  sound = later.sound;
  sends = later.sends;
  plain = later.plain;
  calm = later.calm;
  downs = later.downs;
  harmless = later.harmless;
}

served_last : (s : Setup) (f : Frame) (h : Handle) (w : World) (n : Told) (a : Actor) (m : Site) (z : Segment) (w' : World) (n' : Told) → IsDirectory s m a.records → Replying s f h m z
    → Steps 16 (z.todo ++ []) (played w 16 a z) (told w z n) w' n' → Served s f h w n w' n'
served_last s f h w n a m z w' n' sound replying steps = record {
  memory = Some (OfSite m);
  records = a.records;
  frames = replying.frames;
  notes = [];
  did = did_last 16 w n a (replies m replying.frames) w' n' refl (subst (λ (z : Segment). Steps 16 (z.todo ++ []) (played w 16 a z) (told w z n) w' n') replying.is steps);
  sound = sound;
  sends = replying.sends;
  plain = tt;
  calm = tt;
  downs = tt;
  harmless = tt;
}

module _ (s : Setup) (h : Handle) (w : World) (n : Told) (a : Actor) (m : Site) (f : Frame) (e : ℕ) (w' : World) (n' : Told) (is : get w.actors 16 ≡ Some a) (up : a.memory ≡ Some (OfSite m))
    (sound : IsDirectory s m a.records) (chosen : ℕ) (packet : List ℕ) (kind : f.«body» ≡ body.Forward chosen packet) (about : IsAbout packet h) where
  row_for : (z : Segment) → May (scene w 16) a (Given f e) z → DirectoryOnFrame (scene w 16) a m f e z
  row_for z may = directory_given (scene w 16) a m f e z (directory_row (scene w 16) a m (Given f e) z refl up may)

  replying : (z : Segment) → directories.Admits (scene w 16) a m f z → Replying s f h (seen f m) z
  replying z row = subst (Replying s f h (seen f m)) (sym row.does) (admits_packet s (scene w 16) a f h refl (seen f m) chosen packet kind about (seen_sound s f m a.records sound))

  admits_so : (z : Segment) → directories.Admits (scene w 16) a m f z → Steps 16 (z.todo ++ []) (played w 16 a z) (told w z n) w' n' → Served s f h w n w' n'
  admits_so z row steps = served_last s f h w n a (seen f m) z w' n' (seen_sound s f m a.records sound) (replying z row) steps

  -- of no greater fence
  given_same : (m.fence < f.fence → ⊥) → Steps 16 (Given f e ∷ []) w n w' n' → Served s f h w n w' n'
  given_same not_greater steps = by (begun 16 (Given f e) [] w n a w' n' is steps)
    where
      on_first : (z : Segment) → DirectoryOnFrame (scene w 16) a m f e z → Steps 16 (z.todo ++ []) (played w 16 a z) (told w z n) w' n' → Served s f h w n w' n'
      on_first z (DirectoryRenews row) steps = absurd (not_greater row.greater)
      on_first z (DirectoryAdmits row) steps = admits_so z row steps

      none : (z : Segment) → DirectoryOnFrame (scene w 16) a m f e z → z.append ≡ None
      none z (DirectoryRenews row) = absurd (not_greater row.greater)
      none z (DirectoryAdmits row) = ap (λ (z : Segment). z.append) (replying z row).is

      by : Begun 16 (Given f e) [] w n a w' n' → Served s f h w n w' n'
      by (Does first) = on_first first.segment (row_for first.segment first.may) first.behind
      by (Falls cut) = absurd (not_none (sym cut.append ∙ none cut.segment (row_for cut.segment cut.may)))
      by (Spends spent) = absurd (no_directory a.memory m spent.proxy up spent.up)

not_itself : (k : ℕ) → k < k → ⊥
not_itself k less = omega arith

pub serves_so : (s : Setup) (h : Handle) (w : World) (n : Told) (a : Actor) (m : Site) (f : Frame) (e : ℕ) (w' : World) (n' : Told) → get w.actors 16 ≡ Some a → a.memory ≡ Some (OfSite m)
    → IsDirectory s m a.records → (chosen : ℕ) (packet : List ℕ) → f.«body» ≡ body.Forward chosen packet → IsAbout packet h → Steps 16 (Given f e ∷ []) w n w' n' → Served s f h w n w' n'
serves_so s h w n a m f e w' n' is up sound chosen packet kind about steps = by (begun 16 (Given f e) [] w n a w' n' is steps)
  where
    renews : (z : Segment) → z ≡ recorded m f e → Steps 16 (z.todo ++ []) (played w 16 a z) (told w z n) w' n' → Served s f h w n w' n'
    renews z does steps =
        let seg = recorded m f e in
        served_then s f h w n a seg w' n' refl refl
        (given_same s h (played w 16 a seg) (told w seg n) (after_segment a seg) (renewed f m) f e w' n' (has_put w.actors 16 (after_segment a seg)) refl (recorded_sound s m f a.records sound)
        chosen packet kind about (not_itself f.fence) (subst (λ (z : Segment). Steps 16 (z.todo ++ []) (played w 16 a z) (told w z n) w' n') does steps))

    on_first : (z : Segment) → DirectoryOnFrame (scene w 16) a m f e z → Steps 16 (z.todo ++ []) (played w 16 a z) (told w z n) w' n' → Served s f h w n w' n'
    on_first z (DirectoryRenews row) steps = renews z row.does steps
    on_first z (DirectoryAdmits row) steps = admits_so s h w n a m f e w' n' is up sound chosen packet kind about z row steps

    fallen : (r : Record) → Did 16 w n w' n' None a.records [] (note.Down 16 ∷ []) → Served s f h w n w' n'
    fallen r did = record { memory = None; records = a.records; frames = []; notes = note.Down 16 ∷ []; did = did; sound = tt; sends = Nothing refl; plain = tt; calm = tt; downs = tt; harmless = tt }

    by : Begun 16 (Given f e) [] w n a w' n' → Served s f h w n w' n'
    by (Does first) = on_first first.segment (row_for s h w n a m f e w' n' is up sound chosen packet kind about first.segment first.may) first.behind
    by (Falls cut) = fallen cut.cut (did_fall 16 w n a cut.cut w' n' cut.world cut.noted)
    by (Spends spent) = absurd (no_directory a.memory m spent.proxy up spent.up)
