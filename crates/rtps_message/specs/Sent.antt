-- What the reader of a replay makes of the messages that it hears.
use Rattle.std.specs.Prelude.{◌≡◌, ℕ, Bool, true, false, [], Some, None}
use Rattle.dur_base.specs.Goodness.{IsGood, zero_key}
use Rattle.dur_base.specs.declared.kinds.Shape.{Shape}
use Rattle.dur_base.specs.declared.kinds.Shape.TheVariants as shapes
use Rattle.dur_base.specs.declared.sample.Act.{Act}
use Rattle.dur_base.specs.declared.sample.Act.TheVariants.{Dispose, DisposeUnregister, Marker}
use Rattle.dur_base.specs.declared.sample.Form.TheVariants as forms
use Rattle.dur_base.specs.declared.sample.SetMark.TheVariants.{End}
use Rattle.dur_base.specs.declared.sample.Sample.{Sample}
use Rattle.rtps_message.specs.Samples.{reads}
use Rattle.rtps_message.specs.Written.{IsChange, sent_set, sample_raw, marker_raw}

-- a topic has keys unless its shape is none
abbrev pub is_keyed : Shape → Bool
is_keyed shapes.None = false
is_keyed _ = true

abbrev pub sent_act : Act → Act
sent_act DisposeUnregister = Dispose
sent_act act = act

-- a change as it is sent: a dispose without its unregister, and of its set or of none
abbrev pub sent : Sample → Sample
sent s = record {
  key = s.key;
  act = sent_act s.act;
  stamp = s.stamp;
  lifespan = s.lifespan;
  set = sent_set s.set;
  original = s.original;
  form = s.form;
  payload = s.payload;
}

abbrev pub marker : ℕ → Sample
marker moment = record { key = zero_key; act = Marker; stamp = moment; lifespan = None; set = End; original = None; form = forms.Nothing; payload = [] }

-- a change that was written is read as the change that was sent
abbrev pub ChangesReadAgain : Type 0
ChangesReadAgain = (shape : Shape) (moment : ℕ) (s : Sample) → IsGood s → IsChange s.act → (shape ≡ shapes.None → s.key ≡ zero_key) → reads shape moment (sample_raw s (is_keyed shape)) ≡ Some (sent s)

-- and a marker as a marker
abbrev pub MarkersReadAgain : Type 0
MarkersReadAgain = (shape : Shape) (moment : ℕ) → reads shape moment marker_raw ≡ Some (marker moment)
