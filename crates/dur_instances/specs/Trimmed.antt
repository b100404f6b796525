-- What is kept of the past of a topic.
use Rattle.std.specs.Prelude.{ℕ, ◌-◌, ◌^◌, Bool, false, Option, None, List, [], map, find, unwrap_or, refl}
use Rattle.std.specs.Coded.{Coded, code_by, coded×, coded_ℕ, coded_bool, coded_list, coded_option}
use Rattle.dur_qos.specs.contracts.plan.Topic as topic_row
use Rattle.dur_base.specs.contracts.sample.Sample as sample_row
use Rattle.dur_base.specs.declared.sample.Sample.{Sample}
use Rattle.dur_qos.specs.declared.plan.Topic.{Topic}
use Rattle.dur_view.specs.Identities.{Guid, Key}
use Rattle.dur_view.specs.declared.data.Instance.{Instance}
use Rattle.dur_view.specs.Words.{is_key}
use Rattle.dur_view.specs.Past.{Made, Past, Begin}

-- An instance.
pub record Row : Type 0 where
  pub key : Key
  pub disposed : Bool
  pub quiet : Option ℕ
  pub registered : List ℕ

-- A kept change. Where the topic is deep, it tells how many later changes of its instance took effect. Where it is known, it
-- tells when its own entry was taken.
pub record Late : Type 0 where
  pub later : ℕ
  pub writer : Guid
  pub number : ℕ
  pub arrived : Option ℕ
  pub sample : Sample

-- The topic's settings, the last moment, the instances by key, the kept changes in the order of effect, and how many more of
-- either may come without memory.
pub record Trimmed : Type 0 where
  pub settings : Topic
  pub last : ℕ
  pub rows : List Row
  pub kept : List Late
  pub room : ℕ

abbrev pub row_code : Coded Row
row_code =
    code_by (List ℕ × (Bool × (Option ℕ × List ℕ))) (coded× (coded_list coded_ℕ) (coded× coded_bool (coded× (coded_option coded_ℕ) (coded_list coded_ℕ))))
    (λ r. (r.key, (r.disposed, (r.quiet, r.registered)))) (λ p. record { key = p.0; disposed = p.1.0; quiet = p.1.1.0; registered = p.1.1.1 }) (λ _. refl)

abbrev pub late_code : Coded Late
late_code =
    code_by (ℕ × (List ℕ × (ℕ × (Option ℕ × Sample))))
    (coded× coded_ℕ (coded× (coded_list coded_ℕ) (coded× coded_ℕ (coded× (coded_option coded_ℕ) sample_row.the_row.coded))))
    (λ c. (c.later, (c.writer, (c.number, (c.arrived, c.sample)))))
    (λ p. record { later = p.0; writer = p.1.0; number = p.1.1.0; arrived = p.1.1.1.0; sample = p.1.1.1.1 }) (λ _. refl)

abbrev pub trimmed_code : Coded Trimmed
trimmed_code =
    code_by (Topic × (ℕ × (List Row × (List Late × ℕ)))) (coded× topic_row.the_row.coded (coded× coded_ℕ (coded× (coded_list row_code) (coded× (coded_list late_code) coded_ℕ))))
    (λ t. (t.settings, (t.last, (t.rows, (t.kept, t.room))))) (λ p. record { settings = p.0; last = p.1.0; rows = p.1.1.0; kept = p.1.1.1.0; room = p.1.1.1.1 }) (λ _. refl)

-- More than a topic is deep: so many changes each instance is said to have had.
abbrev pub top : ℕ
top = 2 ^ 33

abbrev pub line_of_row : Row → Instance
line_of_row r = record { topic = 0; key = r.key; disposed = r.disposed; quiet = r.quiet; registered = r.registered; changes = top }

abbrev pub made_of_late : Late → Made
made_of_late c = record { ordinal = top - c.later; writer = c.writer; number = c.number; arrived = c.arrived; sample = c.sample }

-- The past that begins with what is kept.
abbrev pub begun_by : Topic → List Row → List Late → Past
begun_by settings rows kept = Begin record { settings = settings; lines = map line_of_row rows; kept = map made_of_late kept }

abbrev pub begun : Trimmed → Past
begun t = begun_by t.settings t.rows t.kept

-- the row of a key
abbrev pub row_in : List Row → Key → Option Row
row_in rows k = find (λ r. is_key r.key k) rows

-- an instance of which nothing is known
abbrev pub blank_row : Key → Row
blank_row k = record { key = k; disposed = false; quiet = None; registered = [] }

abbrev pub row_at : List Row → Key → Row
row_at rows k = unwrap_or (row_in rows k) (blank_row k)

-- nothing yet
abbrev pub blank : Topic → Trimmed
blank topic = record { settings = topic; last = 0; rows = []; kept = []; room = 0 }
