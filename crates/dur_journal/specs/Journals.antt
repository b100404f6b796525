-- A journal over its disk, and what its calls answer.
use Rattle.std.specs.Prelude.{◌≡◌, ◌≢◌, ◌⊎◌, ℕ, ◌+◌, ◌-◌, ◌<◌, ◌≤◌, ◌^◌, List, [], ◌∷◌, ◌++◌, length, Option, Some, Result, Ok, Err}
use Rattle.dur_outside.specs.declared.values.FileId.{FileId}
use Rattle.dur_outside.specs.World.{Image, World, Leaves, IsClean, content}
use Rattle.dur_view.specs.declared.data.View.{View}
use Rattle.dur_qos.specs.declared.plan.Plan.{Plan}
use Rattle.dur_view.specs.History.{Start}
use Rattle.dur_record.specs.declared.version.Version.TheVariants.{Two}
use Rattle.dur_record.specs.WholeTexts.{view_text}
use Rattle.dur_journal.specs.Histories.{view_of, IsWhole}
use Rattle.dur_journal.specs.Texts.{version_of, view_in}
use Rattle.dur_journal.specs.declared.opening.OpenFault.{OpenFault}
use Rattle.dur_journal.specs.declared.opening.OpenFault.TheVariants as why
use Rattle.dur_journal.specs.declared.opening.Loaded.{Loaded}
use Rattle.dur_journal.specs.declared.journal.Unwritten.{Unwritten}
use Rattle.dur_journal.specs.declared.journal.Unwritten.TheVariants as unwritten
use Rattle.dur_journal.specs.declared.journal.Next.{Next}
use Rattle.dur_journal.specs.declared.state.Journal.{Journal}
use Rattle.dur_journal.specs.declared.state.Opened.{Opened}
use Rattle.dur_journal.specs.File.{front_in, base_length, Stored, records_text, Tells}
use Rattle.dur_journal.specs.Steps.{file_text}
use Rattle.dur_journal.specs.Kept.{live_in, target, other, generation_at, Kept, Keeps, IsOneOf, renewed}
use Rattle.dur_journal.specs.Opening.{Agrees, LoadFault}

-- a view's text of that many octets is too long, or memory failed
abbrev pub UnwrittenBy : View → Unwritten → Type 0
UnwrittenBy view (unwritten.Full size) = (size ≡ length (view_text view)) × (2 ^ 30 < size)
UnwrittenBy view unwritten.OutOfMemory = Unit {0}

-- the greatest generation
abbrev pub last_generation : ℕ
last_generation = 2 ^ 32 - 1

-- why a new file was not made
abbrev pub RenderFault : ℕ → View → OpenFault → Type 0
RenderFault generation view why.Worn = generation ≡ last_generation
RenderFault generation view (why.Full size) = (generation ≢ last_generation) × (size ≡ length (view_text view)) × (2 ^ 30 < size)
RenderFault generation view why.OutOfMemory = Unit {0}
RenderFault generation view e = ⊥

-- the new file of a disk that was read
pub record IsNext (loaded : Loaded) (next : Next) : Type 0 where
  pub file : next.file ≡ loaded.file
  pub front : next.front ≡ loaded.front
  pub spare : next.spare ≡ loaded.spare
  pub view : next.view ≡ loaded.view
  pub generation : next.generation ≡ loaded.generation + 1
  pub text : next.new.text.items ≡ file_text next.generation (view_text next.view)
  pub again : view_in Two (view_text next.view) ≡ Ok next.view
  pub fits : next.generation < 2 ^ 32
  pub base : next.new.base ≡ length (view_text next.view)
  pub bound : next.new.base ≤ 2 ^ 30

-- a disk keeps that, and what is written next is its view under the next generation
pub record IsPrepared (plan : Plan) (c : Image) (next : Next) : Type 0 where
  pub k : Kept
  pub l : Option (FileId × ℕ)
  pub keeps : Keeps plan c k
  pub agrees : Agrees plan c
  pub live : live_in c ≡ Ok l
  pub kept_generation : k.generation ≡ generation_at l
  pub file : next.file ≡ target l
  pub front : front_in (content next.file c) ≡ Ok next.front
  pub spare : front_in (content (other next.file) c) ≡ Ok next.spare
  pub view : next.view ≡ view_of k.history
  pub whole : IsWhole plan next.view
  pub generation : next.generation ≡ k.generation + 1
  pub text : next.new.text.items ≡ file_text next.generation (view_text next.view)
  pub again : view_in Two (view_text next.view) ≡ Ok next.view
  pub fits : next.generation < 2 ^ 32
  pub base : next.new.base ≡ length (view_text next.view)
  pub bound : next.new.base ≤ 2 ^ 30

-- no generation is left behind what is kept
pub record IsWorn (plan : Plan) (c : Image) : Type 0 where
  pub k : Kept
  pub keeps : Keeps plan c k
  pub agrees : Agrees plan c
  pub last : k.generation ≡ last_generation

-- the text of the view of what is kept has that many octets, too many
pub record IsFull (plan : Plan) (c : Image) (size : ℕ) : Type 0 where
  pub k : Kept
  pub keeps : Keeps plan c k
  pub agrees : Agrees plan c
  pub not_last : k.generation ≢ last_generation
  pub counts : size ≡ length (view_text (view_of k.history))
  pub above : 2 ^ 30 < size

-- why a journal was not opened
abbrev pub OpenAnswers : Plan → Image → OpenFault → Type 0
OpenAnswers plan c why.Worn = IsWorn plan c
OpenAnswers plan c (why.Full size) = IsFull plan c size
OpenAnswers plan c e = LoadFault plan c e

-- A journal stands for that over its disk: the live file keeps it, all is synced, and what the plan declares stands in the base.
pub record Stands {D : Type 0} (plan : Plan) (k : Kept) (journal : Journal D) (w : World) : Type 0 where
  pub clean : IsClean w
  pub live : live_in w.now ≡ Ok (Some (journal.live, k.generation))
  pub spare : front_in (content (other journal.live) w.now) ≡ Ok journal.spare
  pub generation : journal.generation ≡ k.generation
  pub view : View
  pub rs : List Stored
  pub front : List ℕ
  pub base : List ℕ
  pub parts : content journal.live w.now ≡ front ++ (base ++ (records_text rs ++ 0 ∷ []))
  pub header : length front ≡ 25
  pub sized : base_length (content journal.live w.now) ≡ length base
  pub version : version_of (content journal.live w.now) ≡ Two
  pub spells : view_in Two base ≡ Ok view
  pub tells : Tells Two (Start view) rs k.history
  pub whole : IsWhole plan view
  pub counted : journal.base ≡ length base
  pub records : k.appended ≡ length (records_text rs)
  pub appended : journal.appended ≡ k.appended

-- a journal over its disk
pub record IsReady {D : Type 0} (journal : Journal D) (w : World) : Type 0 where
  pub plan : Plan
  pub k : Kept
  pub stands : Stands plan k journal w

abbrev pub opened_disk : {D : Type 0} → Result (Opened D) (OpenFault × D) → D
opened_disk (Ok o) = o.journal.disk
opened_disk (Err e) = e.1

-- what a crash may leave of an opening: an image that the disk had, or what the disk kept, as it was or as its view under the next generation
abbrev pub OpenLeaves : Plan → World → Image → Type 0
OpenLeaves plan w c = w.may c ⊎ ((k : Kept) × Keeps plan w.now k × IsOneOf plan w.now k (renewed (view_of k.history) k) c)

-- what was opened
pub record Opens {D : Type 0} (plan : Plan) (c : Image) (o : Opened D) (v : World) : Type 0 where
  pub k : Kept
  pub keeps : Keeps plan c k
  pub agrees : Agrees plan c
  pub view : o.view ≡ view_of k.history
  pub epoch : o.epoch ≡ k.generation + 1
  pub stands : Stands plan (renewed o.view k) o.journal v
  pub out : v.now.written ≡ c.written

-- a crash leaves nothing that it could not have left before
pub record Untouched (w v : World) : Type 0 where
  pub same : v.now ≡ w.now
  pub run : Leaves w v w.may
