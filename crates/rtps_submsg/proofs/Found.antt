-- What the reader's steps find is what the grammar says.
use Rattle.std.proofs.Common.{◌≡◌, ℕ, Bool, List, Ok, Err, sym, ap, ◌∙◌, inr}
use Rattle.rtps_submsg.specs.declared.field.Broken.{Broken}
use Rattle.dur_base.specs.declared.sample.Form.{Form}
use Rattle.rtps_submsg.specs.declared.sub.DataSub.{DataSub}
use Rattle.rtps_submsg.specs.declared.sub.Sub.{Sub}
use Rattle.rtps_submsg.specs.Grammar.{Spells, Breaks}
use Rattle.rtps_submsg.specs.Rows.{has, row_of}
use Rattle.rtps_submsg.specs.RowSteps.{plain_at}
use Rattle.rtps_submsg.specs.Data.{Head, head_row, form_of, payload_of, InlineSpells, InlineBreaks, DataSpells, DataBreaks}
use Rattle.rtps_submsg.specs.DataSteps.{head_at}
use Rattle.rtps_submsg.proofs.Runs.{run_spells, run_breaks}
use Rattle.rtps_submsg.proofs.Steps.{plain_step, head_step}

pub plain_spells : (little : Bool) (flags id : ℕ) (body : List ℕ) (s : Sub) → plain_at little flags id body ≡ Ok s → Spells (row_of little flags id) body s
plain_spells little flags id body s read = run_spells (row_of little flags id) body s (sym (plain_step little flags id body).same ∙ read)

pub plain_breaks : (little : Bool) (flags id : ℕ) (body : List ℕ) (e : Broken) → plain_at little flags id body ≡ Err e → Breaks (row_of little flags id) body e
plain_breaks little flags id body e read = run_breaks (row_of little flags id) body e (sym (plain_step little flags id body).same ∙ read)

pub head_spells : (little : Bool) (body : List ℕ) (h : Head) → head_at little body ≡ Ok h → Spells (head_row little body) body h
head_spells little body h read = run_spells (head_row little body) body h (sym (head_step little body).same ∙ read)

pub head_breaks : (little : Bool) (body : List ℕ) (e : Broken) → head_at little body ≡ Err e → Breaks (head_row little body) body e
head_breaks little body e read = run_breaks (head_row little body) body e (sym (head_step little body).same ∙ read)

pub data_spells : (little : Bool) (flags : ℕ) (body : List ℕ) (d : DataSub) (behind rest : List ℕ)
    → head_at little body ≡ Ok (record { reader = d.reader; writer = d.writer; number = d.number; behind = behind }) → InlineSpells (has flags 0x02) little behind d.inline rest
    → d.form ≡ form_of flags → d.payload.now ≡ payload_of d.form rest → DataSpells little flags body d
data_spells little flags body d behind rest read inline form payload = record {
  behind = behind;
  rest = rest;
  head = head_spells little body (record { reader = d.reader; writer = d.writer; number = d.number; behind = behind }) read;
  inline = inline;
  form = form;
  payload = payload ∙ ap (λ (f : Form). payload_of f rest) form;
}

pub data_breaks : (little : Bool) (flags : ℕ) (body : List ℕ) (e : Broken) (h : Head) → head_at little body ≡ Ok h → InlineBreaks (has flags 0x02) little h.behind e → DataBreaks little flags body e
data_breaks little flags body e h read breaks = inr (record { head = h; spelt = head_spells little body h read; breaks = breaks })
