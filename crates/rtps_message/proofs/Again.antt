-- A written change is read as the change that was sent.
use Rattle.std.proofs.Common.{◌≡◌, ℕ, List, Some, None, refl, sym, ap, ◌∙◌}
use Rattle.std.specs.Prelude.{if◌then◌else◌}
use Rattle.dur_base.specs.Goodness.{IsAct, zero_key}
use Rattle.dur_base.specs.declared.kinds.Shape.{Shape}
use Rattle.dur_base.specs.declared.kinds.Shape.TheVariants as shapes
use Rattle.dur_base.specs.declared.sample.Act.{Act}
use Rattle.dur_base.specs.declared.sample.Act.TheVariants.{Write, Dispose, Unregister, DisposeUnregister, Marker}
use Rattle.dur_base.specs.declared.sample.Form.{Form}
use Rattle.rtps_message.specs.Samples.{act_of_form, act_of, key_of, key_for, sample_with, sample_as}
use Rattle.rtps_message.specs.Written.{IsChange, status_of, sample_raw}
use Rattle.rtps_message.specs.Sent.{is_keyed, sent_act, ChangesReadAgain, MarkersReadAgain}

act_again : (form : Form) (act : Act) (key : List ℕ) → IsChange act → IsAct act form key → act_of form (status_of act) ≡ Some (sent_act act)
act_again form Write key change good = ap act_of_form good
act_again form Dispose key change good = refl
act_again form DisposeUnregister key change good = refl
act_again form Unregister key change good = absurd change
act_again form Marker key change good = absurd change

shape_again : (shape : Shape) (key payload : List ℕ) → (shape ≡ shapes.None → key ≡ zero_key) → key_of shape (if is_keyed shape then Some key else None) payload ≡ Some key
shape_again shapes.None key payload none = ap (λ (k : List ℕ). Some k) (sym (none refl))
shape_again shapes.Hash key payload none = refl
shape_again shapes.U32 key payload none = refl
shape_again shapes.Text key payload none = refl

key_again : (act : Act) (shape : Shape) (key payload : List ℕ) → IsChange act → (shape ≡ shapes.None → key ≡ zero_key) → key_for (sent_act act) shape (if is_keyed shape then Some key else None) payload ≡ Some key
key_again Write shape key payload change none = shape_again shape key payload none
key_again Dispose shape key payload change none = shape_again shape key payload none
key_again DisposeUnregister shape key payload change none = shape_again shape key payload none
key_again Unregister shape key payload change none = absurd change
key_again Marker shape key payload change none = absurd change

pub changes_again : ChangesReadAgain
changes_again shape moment s good change none =
    let raw = sample_raw s (is_keyed shape) in
    ap (sample_as shape moment raw) (act_again s.form s.act s.key change good.act) ∙ ap (sample_with moment raw (sent_act s.act)) (key_again s.act shape s.key s.payload change none)

pub markers_again : MarkersReadAgain
markers_again shape moment = refl
