-- The steps of a directory server that has the root alone are those of the machine.
use Rattle.std.proofs.Common.{◌≡◌, ℕ, ◌<◌, Bool, true, false, List, [], ◌∷◌, Option, Some, None, Result, Ok, Err, refl, sym, ap, ◌∙◌, nat_lt, max, ◌||◌, if◌then◌else◌}
use Rattle.std.proofs.lemmas.List.{append-nil}
use Rattle.std.specs.FinMap.{get-empty}
use Rattle.std.specs.Ordering.{nat_cmp}
use Rattle.sl_types.specs.declared.call.Call.{Call}
use Rattle.sl_types.specs.declared.call.Call.TheVariants as call
use Rattle.sl_types.specs.declared.reply.Reply.TheVariants as reply
use Rattle.sl_records.specs.declared.directory.DirRecord.TheVariants as dir
use Rattle.sl_frames.specs.Actors.{is_directory}
use Rattle.sl_frames.specs.declared.frame.Frame.{Frame}
use Rattle.sl_frames.specs.declared.body.Body.{Body}
use Rattle.sl_frames.specs.declared.body.Body.TheVariants as body
use Rattle.sl_history.specs.Arrivals.{Asked, asked_in, datagram, answer_to, is_changing}
use Rattle.sl_machine.specs.Records.{Record, OfDir, cells_of, locked_in, last_finished}
use Rattle.sl_machine.specs.Memory.{Site, Actor, OfSite}
use Rattle.sl_machine.specs.World.{Scene, Given, Segment, after_segment}
use Rattle.sl_machine.specs.Verdicts.{verdict, for_directory, answering, kept_or, Answers, BelowLow, Verdict}
use Rattle.sl_machine.specs.Directories.{admits, by_verdict, done_for, serves, looks, does_call, packet_of, forwarded_choice}
use Rattle.sl_machine.specs.Packets.{outer_call}
use Rattle.sl_machine.specs.Directories as directory
use Rattle.sl_machine.specs.Runs.{ByDirectory}
use Rattle.sl_world.specs.declared.directory.Directory.{Directory}
use Rattle.sl_world.specs.declared.site.Site as code
use Rattle.sl_world.specs.declared.step.Step.{Step}
use Rattle.sl_world.specs.declared.step.StepFault.{StepFault}
use Rattle.sl_world.specs.declared.step.StepFault.TheVariants.{NotBuilt, Spent, NoMemory}
use Rattle.sl_world.specs.Acting.{IsStep, later}
use Rattle.sl_world.specs.Sites.{bare, site_of, seen_by}
use Rattle.sl_world.specs.Serving.{HasRoot, forwarded_call, forwarded_by, forwarded, answer_of, answered, served, IsBuilt, Serves, MayAnswer, GivesAnswer, look, root_alone}
use Rattle.sl_world.proofs.Numbers.{not_less, twice, not_greater, same_by, less_by}
use Rattle.sl_world.proofs.Seeing.{seen_is, unseen}
use Rattle.sl_world.proofs.Looking.{root_is_seen}

-- these frames are sent, and nothing else is done
abbrev pub replies : Site → List Frame → Segment
replies s fs = record { append = None; memory = OfSite s; frames = fs; notes = []; todo = [] }

-- ---- the verdict on a forwarded packet

abbrev fresh_tag : ℕ → ℕ → Verdict
fresh_tag low tag = if nat_lt tag low then BelowLow else Answers

verdict_is : (f : Frame) (chosen : ℕ) (packet : List ℕ) (low last : ℕ) → f.«body» ≡ body.Forward chosen packet
    → verdict for_directory None last (bare f.fence low) f ≡ fresh_tag low f.tag
unfolding verdict
verdict_is f chosen packet low last is = rw (is, not_less f.fence) (ap (λ o. kept_or o (fresh_tag low f.tag)) (get-empty nat_cmp f.tag))

-- ---- what is done for it

no_call : (x : Scene) (s : Site) (f : Frame) (chosen volume : ℕ) → serves x s f chosen (root_alone volume) None ≡ replies s []
no_call x s f chosen volume = refl

asks_only : (c : Call) (object : List ℕ) → c ≡ call.Getattr object → is_changing (outer_call c) ≡ false
asks_only c object is = rw is refl

getattr : (x : Scene) (s : Site) (f : Frame) (chosen volume : ℕ) (q : Asked) (object : List ℕ) → q.call ≡ call.Getattr object
    → serves x s f chosen (root_alone volume) (Some q) ≡ replies s (answering x.actor 0 f (body.Packet (answer_to q (reply.Getattr (look volume object)))) ∷ [])
getattr x s f chosen volume q object is =
    ap (λ b. if b then does_call x s f chosen q (root_alone volume) (forwarded_choice chosen) else looks x s f q (root_alone volume) (forwarded_choice chosen))
    (asks_only q.call object is)
    ∙ ap (λ r. replies s (answering x.actor 0 f (body.Packet (packet_of x.actor q r)) ∷ [])) (root_is_seen volume q object x.moment (forwarded_choice chosen) is)

-- ---- a frame of its own fence

-- what is answered, if the tag isn't below the low one
abbrev unless_low : ℕ → Frame → List Frame → List Frame
unless_low low f fs = if nat_lt f.tag low then [] else fs

by_tag : (x : Scene) (a : Actor) (s : Site) (f : Frame) (fs : List Frame) (b : Bool) → done_for x a s f f.«body» ≡ replies s fs
    → by_verdict x a s f (if b then BelowLow else Answers) ≡ replies s (if b then [] else fs)
by_tag x a s f fs true does = refl
by_tag x a s f fs false does = does

admits_packet : (x : Scene) (a : Actor) (f : Frame) (low chosen : ℕ) (packet : List ℕ) (fs : List Frame) → f.«body» ≡ body.Forward chosen packet → locked_in a.records ≡ None
    → serves x (bare f.fence low) f chosen (cells_of a.records) (asked_in (datagram packet)) ≡ replies (bare f.fence low) fs
    → admits x a (bare f.fence low) f ≡ replies (bare f.fence low) (unless_low low f fs)
admits_packet x a f low chosen packet fs is unlocked does =
    ap (λ l. by_verdict x a (bare f.fence low) f (verdict for_directory l (last_finished a.records) (bare f.fence low) f)) unlocked
    ∙ ap (by_verdict x a (bare f.fence low) f) (verdict_is f chosen packet low (last_finished a.records) is)
    ∙ by_tag x a (bare f.fence low) f fs (nat_lt f.tag low) (ap (done_for x a (bare f.fence low) f) is ∙ does)

-- ---- what is answered to any packet that is built

answers_call : (x : Scene) (s : Site) (d : Directory) (f : Frame) (chosen : ℕ) (q : Asked) (c : Call) → x.actor ≡ d.actor → q.call ≡ c → IsBuilt (forwarded_call q c)
    → serves x s f chosen (root_alone d.volume) (Some q) ≡ replies s (answer_of d f (forwarded_call q c))
answers_call x s d f chosen q (call.Getattr object) here is built =
    getattr x s f chosen d.volume q object is
    ∙ ap (λ i. replies s (answering i 0 f (body.Packet (answer_to q (reply.Getattr (look d.volume object)))) ∷ [])) here
answers_call x s d f chosen q other here is built = absurd built

answers_packet : (x : Scene) (s : Site) (d : Directory) (f : Frame) (chosen : ℕ) (o : Option Asked) → x.actor ≡ d.actor → IsBuilt (forwarded_by o)
    → serves x s f chosen (root_alone d.volume) o ≡ replies s (answer_of d f (forwarded_by o))
answers_packet x s d f chosen None here built = no_call x s f chosen d.volume
answers_packet x s d f chosen (Some q) here built = answers_call x s d f chosen q q.call here refl built

admits_body : (x : Scene) (a : Actor) (d : Directory) (f : Frame) (low : ℕ) (b : Body) → f.«body» ≡ b → x.actor ≡ d.actor → HasRoot d.volume a.records → IsBuilt (forwarded b)
    → admits x a (bare f.fence low) f ≡ replies (bare f.fence low) (unless_low low f (answer_of d f (forwarded b)))
admits_body x a d f low (body.Forward chosen packet) is here root built =
    admits_packet x a f low chosen packet (answer_of d f (forwarded_by (asked_in (datagram packet)))) is root.unlocked
    (ap (λ c. serves x (bare f.fence low) f chosen c (asked_in (datagram packet))) root.cells
    ∙ answers_packet x (bare f.fence low) d f chosen (asked_in (datagram packet)) here built)
admits_body x a d f low other is here root built = absurd built

-- ---- a step

admitted : (x : Scene) (a : Actor) (d : Directory) (f : Frame) (e low : ℕ) → is_directory d.actor ≡ true → x.actor ≡ d.actor → a.memory ≡ Some (OfSite (bare f.fence low))
    → HasRoot d.volume a.records → IsBuilt (forwarded f.«body»)
    → IsStep x a (Given f e) (unless_low (max low f.low) f (answer_of d f (forwarded f.«body»))) [] (OfSite (bare f.fence (max low f.low))) (HasRoot d.volume)
admitted x a d f e low class here memory root built = record {
  segments = replies (bare f.fence (max low f.low)) (unless_low (max low f.low) f (answer_of d f (forwarded f.«body»))) ∷ [];
  after = _;
  acts = (
    ByDirectory (bare f.fence low) (ap is_directory here ∙ class) memory (directory.IsAdmitted f e refl (record {
      not_greater = not_less f.fence;
      does = sym (ap (λ s. admits x a s f) (seen_is f low) ∙ admits_body x a d f (max low f.low) f.«body» refl here root built);
    })),
    refl,
  );
  sends = append-nil _;
  remarks = refl;
  memory = refl;
  keeps = root;
}

-- of a greater fence: the fence is recorded first
renews : Frame → ℕ → Segment
renews f e = record { append = Some (OfDir (dir.Fence f.fence)); memory = OfSite (bare f.fence f.low); frames = []; notes = []; todo = Given f e ∷ [] }

still_root : (volume fence : ℕ) (rs : List Record) → HasRoot volume rs → HasRoot volume (OfDir (dir.Fence fence) ∷ rs)
unfolding cells_of locked_in
still_root volume fence rs root = record { cells = root.cells; unlocked = rw root.unlocked refl }

renewed : (x : Scene) (a : Actor) (d : Directory) (f : Frame) (e : ℕ) → is_directory d.actor ≡ true → x.actor ≡ d.actor → a.memory ≡ Some (OfSite (site_of d.site))
    → HasRoot d.volume a.records → d.site.fence < f.fence → IsBuilt (forwarded f.«body»)
    → IsStep (later x (renews f e)) (after_segment a (renews f e)) (Given f e) (unless_low (max f.low f.low) f (answer_of d f (forwarded f.«body»))) [] (OfSite (bare f.fence (max f.low f.low))) (HasRoot d.volume)
    → IsStep x a (Given f e) (unless_low f.low f (answer_of d f (forwarded f.«body»))) [] (OfSite (bare f.fence f.low)) (HasRoot d.volume)
unfolding renews
renewed x a d f e class here memory root greater built step = record {
  segments = renews f e ∷ step.segments;
  after = step.after;
  acts = (ByDirectory (site_of d.site) (ap is_directory here ∙ class) memory (directory.IsRenewed f e refl (record { greater = greater; does = refl })), step.acts);
  sends = step.sends ∙ ap (λ low. unless_low low f (answer_of d f (forwarded f.«body»))) (twice f.low);
  remarks = step.remarks;
  memory = step.memory ∙ ap (λ low. Some (OfSite (bare f.fence low))) (twice f.low);
  keeps = step.keeps;
}

greater_fence : (x : Scene) (a : Actor) (d : Directory) (f : Frame) (e : ℕ) → is_directory d.actor ≡ true → x.actor ≡ d.actor → a.memory ≡ Some (OfSite (site_of d.site))
    → HasRoot d.volume a.records → d.site.fence < f.fence → IsBuilt (forwarded f.«body»)
    → IsStep x a (Given f e) (unless_low f.low f (answer_of d f (forwarded f.«body»))) [] (OfSite (bare f.fence f.low)) (HasRoot d.volume)
unfolding renews
greater_fence x a d f e class here memory root greater built =
    renewed x a d f e class here memory root greater built
    (admitted (later x (renews f e)) (after_segment a (renews f e)) d f e f.low class here refl (still_root d.volume f.fence a.records root) built)

-- of an older fence
older_body : (x : Scene) (a : Actor) (s : Site) (f : Frame) (b : Body) → f.«body» ≡ b → IsBuilt (forwarded b) → nat_lt f.fence s.fence ≡ true → admits x a s f ≡ replies s []
unfolding verdict
older_body x a s f (body.Forward chosen packet) is built older = rw (older, is) refl
older_body x a s f other is built older = absurd built

passes_over : (x : Scene) (a : Actor) (s : Site) (f : Frame) → IsBuilt (forwarded f.«body») → nat_lt f.fence s.fence ≡ true → admits x a s f ≡ replies s []
passes_over x a s f built older = older_body x a s f f.«body» refl built older

older_fence : (x : Scene) (a : Actor) (d : Directory) (f : Frame) (e : ℕ) → is_directory d.actor ≡ true → x.actor ≡ d.actor → a.memory ≡ Some (OfSite (site_of d.site))
    → HasRoot d.volume a.records → nat_lt f.fence d.site.fence ≡ true → IsBuilt (forwarded f.«body») → IsStep x a (Given f e) [] [] (OfSite (site_of d.site)) (HasRoot d.volume)
older_fence x a d f e class here memory root older built = record {
  segments = replies (site_of d.site) [] ∷ [];
  after = _;
  acts = (
    ByDirectory (site_of d.site) (ap is_directory here ∙ class) memory (directory.IsAdmitted f e refl (record {
      not_greater = not_greater f.fence d.site.fence older;
      does = sym (ap (λ s. admits x a s f) (unseen f (site_of d.site) older) ∙ passes_over x a (site_of d.site) f built older);
    })),
    refl,
  );
  sends = refl;
  remarks = refl;
  memory = refl;
  keeps = root;
}

not_older : (x : Scene) (a : Actor) (d : Directory) (f : Frame) (e : ℕ) (greater : Bool) → nat_lt d.site.fence f.fence ≡ greater → nat_lt f.fence d.site.fence ≡ false
    → is_directory d.actor ≡ true → x.actor ≡ d.actor → a.memory ≡ Some (OfSite (site_of d.site)) → HasRoot d.volume a.records → IsBuilt (forwarded f.«body»)
    → IsStep x a (Given f e) (unless_low (if greater then f.low else max d.site.low f.low) f (answer_of d f (forwarded f.«body»))) []
    (OfSite (bare f.fence (if greater then f.low else max d.site.low f.low))) (HasRoot d.volume)
not_older x a d f e true g o class here memory root built = greater_fence x a d f e class here memory root (less_by d.site.fence f.fence g) built
not_older x a d f e false g o class here memory root built =
    admitted x a d f e d.site.low class here (memory ∙ ap (λ fence. Some (OfSite (bare fence d.site.low))) (same_by f.fence d.site.fence o g)) root built

by_age : (x : Scene) (a : Actor) (d : Directory) (f : Frame) (e : ℕ) (older : Bool) → nat_lt f.fence d.site.fence ≡ older
    → is_directory d.actor ≡ true → x.actor ≡ d.actor → a.memory ≡ Some (OfSite (site_of d.site)) → HasRoot d.volume a.records → IsBuilt (forwarded f.«body»)
    → IsStep x a (Given f e) (if older || nat_lt f.tag (seen_by d.site f).low then [] else answer_of d f (forwarded f.«body»)) []
    (OfSite (site_of (if older then d else record d { site = seen_by d.site f }).site)) (HasRoot d.volume)
by_age x a d f e true o class here memory root built = older_fence x a d f e class here memory root o built
by_age x a d f e false o class here memory root built = not_older x a d f e (nat_lt d.site.fence f.fence) refl o class here memory root built

-- what it does for a frame that is built is a step that the machine says
gives_step : (d new : Directory) (f : Frame) (step : Step) → IsBuilt (forwarded f.«body») → step.frames ≡ answered d f → step.notes ≡ [] → new ≡ served d f → MayAnswer d new f step
gives_step d new f step built sent noted is_now class x a e here memory root =
    rw (sent, noted, is_now) (by_age x a d f e (nat_lt f.fence d.site.fence) refl class here memory root built)

same_actor : (d : Directory) (s : code.Site) (b : Bool) → (if b then d else record d { site = s }).actor ≡ d.actor
same_actor d s true = refl
same_actor d s false = refl

same_volume : (d : Directory) (s : code.Site) (b : Bool) → (if b then d else record d { site = s }).volume ≡ d.volume
same_volume d s true = refl
same_volume d s false = refl

pub gives_answer : (d new : Directory) (f : Frame) (step : Step) → Serves d new f (forwarded f.«body») (Ok step) → GivesAnswer d new f (Ok step)
gives_answer d new f step serves = gives_by d new f step serves.0 serves.1 serves.2 serves.3
  where
    gives_by : (d new : Directory) (f : Frame) (step : Step) → IsBuilt (forwarded f.«body») → step.frames ≡ answered d f → step.notes ≡ [] → new ≡ served d f → GivesAnswer d new f (Ok step)
    gives_by d new f step built sent noted is_now = (
      gives_step d new f step built sent noted is_now,
      ap (λ x. x.actor) is_now ∙ same_actor d (seen_by d.site f) (nat_lt f.fence d.site.fence),
      ap (λ x. x.volume) is_now ∙ same_volume d (seen_by d.site f) (nat_lt f.fence d.site.fence),
    )

-- Whatever is served, it is the answer that is claimed.
pub gives_result : (d new : Directory) (f : Frame) (r : Result Step StepFault) → Serves d new f (forwarded f.«body») r → GivesAnswer d new f r
gives_result d new f (Ok step) serves = gives_answer d new f step serves
gives_result d new f (Err NotBuilt) serves = serves
gives_result d new f (Err NoMemory) serves = tt
gives_result d new f (Err Spent) serves = serves
