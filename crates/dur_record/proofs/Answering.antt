-- Octets with one reading have one answer.
use Rattle.std.proofs.Common.{◌≡◌, ℕ, List, [], Result, Ok, Err, Option, refl, ap, ◌∙◌, inl, inr}
use Rattle.std.specs.Prelude.{length, IfOk, IfErr}
use Rattle.dur_base.specs.declared.entry.Entry.{Entry}
use Rattle.dur_view.specs.declared.data.View.{View}
use Rattle.dur_view.specs.IsSound.{IsSound}
use Rattle.dur_record.specs.declared.fault.TextFault.{TextFault}
use Rattle.dur_record.specs.declared.fault.TextFault.TheVariants.{Cut, BadTag, BadField, OutOfMemory}
use Rattle.dur_view.specs.History.{History}
use Rattle.dur_record.specs.declared.version.Version.{Version}
use Rattle.dur_record.specs.Grammar.{Break}
use Rattle.dur_record.specs.Faults.{told_at, IsFault, IsRead, IsRefused}
use Rattle.dur_record.specs.Entries.{SpellsEntries, BreaksEntries}
use Rattle.dur_record.specs.Views.{SpellsView, BreaksView}
use Rattle.dur_record.specs.OneReading.{HasOneReading}
use Rattle.dur_record.specs.Readers.{AnswersReading, AnswersEntries, AnswersView}
use Rattle.dur_record.proofs.Readings.{entries_reading, view_reading}
use Rattle.dur_record.proofs.GoodEntries.{entries_good}
use Rattle.dur_record.proofs.TopicKinds.{kinds_told, if_read}

read_by : {V : Type 0} (Spelt : V → Type 0) (Broken : Break → Type 0) (len : ℕ) (r : Result V TextFault)
    → HasOneReading Spelt Broken → IfOk r Spelt → IfErr r (IsFault Broken len) → (v : V) → Spelt v → IsRead r v
read_by Spelt Broken len (Ok w) one ok err v s = one.one_value w v ok s
read_by Spelt Broken len (Err OutOfMemory) one ok err v s = refl
read_by Spelt Broken len (Err (Cut n)) one ok err v s = absurd (one.apart v err.0 s err.1)
read_by Spelt Broken len (Err (BadTag n)) one ok err v s = absurd (one.apart v err.0 s err.1)
read_by Spelt Broken len (Err (BadField n)) one ok err v s = absurd (one.apart v err.0 s err.1)

told_same : (len : ℕ) (f : TextFault) (a b : Break) → f ≡ told_at len a → a ≡ b → f ≡ told_at len b
told_same len f a b is same = is ∙ ap (told_at len) same

refused_by : {V : Type 0} (Spelt : V → Type 0) (Broken : Break → Type 0) (len : ℕ) (r : Result V TextFault)
    → HasOneReading Spelt Broken → IfOk r Spelt → IfErr r (IsFault Broken len) → (b : Break) → Broken b → IsRefused r len b
refused_by Spelt Broken len (Ok w) one ok err b x = one.apart w b ok x
refused_by Spelt Broken len (Err OutOfMemory) one ok err b x = inl refl
refused_by Spelt Broken len (Err (Cut n)) one ok err b x =
    inr (told_same len (Cut n) err.0 b err.3 (one.one_break err.0 b err.1 x))
refused_by Spelt Broken len (Err (BadTag n)) one ok err b x =
    inr (told_same len (BadTag n) err.0 b err.3 (one.one_break err.0 b err.1 x))
refused_by Spelt Broken len (Err (BadField n)) one ok err b x =
    inr (told_same len (BadField n) err.0 b err.3 (one.one_break err.0 b err.1 x))

pub answers : {V : Type 0} (Spelt : V → Type 0) (Broken : Break → Type 0) (len : ℕ) (r : Result V TextFault)
    → HasOneReading Spelt Broken → IfOk r Spelt → IfErr r (IsFault Broken len) → AnswersReading Spelt Broken len r
answers Spelt Broken len r one ok err = record {
  value = ok;
  fault = err;
  spelt = read_by Spelt Broken len r one ok err;
  broken = refused_by Spelt Broken len r one ok err;
}

pub answers_entries : (version : Version) (past : Option History) (text : List ℕ) (r : Result (List Entry) TextFault)
    → IfOk r (SpellsEntries version past text) → IfErr r (IsFault (BreaksEntries version past text) (length text))
    → AnswersEntries version past text r
answers_entries version past text r ok err = record {
  reading = answers _ _ (length text) r (entries_reading version past text) ok err;
  good = if_read (SpellsEntries version past text) _ (λ es s. entries_good version past text es [] s) r ok;
}

pub answers_view : (version : Version) (text : List ℕ) (r : Result View TextFault)
    → IfOk r (SpellsView version text) → IfOk r IsSound → IfErr r (IsFault (BreaksView version text) (length text))
    → AnswersView version text r
answers_view version text r ok sound err = record {
  reading = answers _ _ (length text) r (view_reading version text) ok err;
  sound = sound;
  persistent = if_read (SpellsView version text) _ (λ v s. kinds_told version text v s) r ok;
}
