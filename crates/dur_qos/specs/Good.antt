-- A good plan, as a condition on values.
use Rattle.std.specs.Prelude.{◌≡◌, ℕ, ◌<◌, ◌≤◌, false, List, [], ◌∷◌, ◌++◌, length, None, IfSome, IsTrue}
use Rattle.std.specs.List.{AllByRecursion}
use Rattle.std.specs.declared.option.Option.{Option}
use Rattle.dur_qos.specs.declared.plan.Topic.{Topic}
use Rattle.dur_qos.specs.declared.line.Line.{Line}
use Rattle.dur_qos.specs.declared.line.Line.TheVariants as line
use Rattle.dur_qos.specs.declared.plan.Plan.{Plan}
use Rattle.dur_qos.specs.declared.plan.WriterLine.{WriterLine}
use Rattle.dur_qos.specs.declared.plan.ReaderLine.{ReaderLine}
use Rattle.dur_base.specs.Names.{is_name}
use Rattle.dur_qos.specs.Plan.{place_of, has_writer, has_reader, is_above}
use Rattle.dur_qos.specs.Served.{rank}

-- none, or from 1 to 2147483647
abbrev pub IsLimit : Option ℕ → Type 0
IsLimit limit = IfSome limit (λ n. (0 < n) × (n ≤ 2147483647))

pub record IsGoodTopic (t : Topic) : Type 0 where
  pub name : IsTrue (is_name t.name)
  pub kind : 2 ≤ rank t.kind
  pub depth : IsLimit t.depth
  pub max_samples : IsLimit t.max_samples
  pub max_instances : IsLimit t.max_instances
  pub max_per_instance : IsLimit t.max_per_instance
  pub max_held : IsLimit t.max_held
  pub delay : t.delay ≤ 2147483647

-- each item is new after those before it
abbrev pub EachIsNew : {X : Type 0} → (List X → X → Type 0) → List X → List X → Type 0
EachIsNew IsNew seen [] = Unit {0}
EachIsNew IsNew seen (x ∷ xs) = IsNew seen x × EachIsNew IsNew (seen ++ x ∷ []) xs

abbrev pub IsGoodWriter : ℕ → WriterLine → Type 0
IsGoodWriter topics w = (w.topic < topics) × IsLimit w.lease

abbrev pub IsGoodReader : ℕ → ReaderLine → Type 0
IsGoodReader topics r = r.topic < topics

pub record GoodPlan (p : Plan) : Type 0 where
  pub topics : AllByRecursion IsGoodTopic p.topics
  pub depths : AllByRecursion (λ t. is_above t.depth t.max_per_instance ≡ false) p.topics
  pub names : EachIsNew (λ seen t. place_of t.name seen ≡ None) [] p.topics
  pub writers : AllByRecursion (IsGoodWriter (length p.topics)) p.writers
  pub writer_guids : EachIsNew (λ seen w. has_writer w.guid seen ≡ false) [] p.writers
  pub readers : AllByRecursion (IsGoodReader (length p.topics)) p.readers
  pub reader_guids : EachIsNew (λ seen r. has_reader r.guid seen ≡ false) [] p.readers
  pub topic_count : length p.topics ≤ 1024
  pub writer_count : length p.writers ≤ 4096
  pub reader_count : length p.readers ≤ 1024

-- the ranges of what a line says
abbrev pub IsGoodLine : Line → Type 0
IsGoodLine (line.Prefix p) = Unit {0}
IsGoodLine (line.Topic t) = IsGoodTopic t
IsGoodLine (line.Writer guid topic lease) = IsLimit lease
IsGoodLine (line.Reader guid topic kind) = Unit {0}
IsGoodLine line.End = Unit {0}
