-- What a written message tells.
use Rattle.std.proofs.Common.{◌≡◌, ℕ, ◌-◌, ◌<◌, ◌≤◌, ◌^◌, Bool, true, false, List, [], ◌∷◌, ◌++◌, length, take, drop, Some, None, refl, sym, ap, subst, ◌∙◌, arith, inl}
use Rattle.std.specs.List.{flat_map, AllByRecursion}
use Rattle.std.specs.Option.{option_to_list}
use Rattle.std.specs.Prelude.{Option, if◌then◌else◌}
use Rattle.std.proofs.lemmas.Bool.{le-leb}
use Rattle.std.proofs.lemmas.List.{take_at, drop_at, length-append, take-append-drop}
use Rattle.dur_base.specs.Goodness.{IsGood, IsMark, IsPayload}
use Rattle.dur_base.specs.declared.sample.SetMark.{SetMark}
use Rattle.dur_base.specs.declared.sample.SetMark.TheVariants.{NoSet, End, Of}
use Rattle.dur_base.specs.NumberSets.{NumberSet}
use Rattle.dur_base.specs.declared.fact.Fact.{Fact}
use Rattle.dur_base.specs.declared.fact.Fact.TheVariants as facts
use Rattle.dur_base.specs.declared.sample.Act.{Act}
use Rattle.dur_base.specs.declared.sample.Act.TheVariants.{Write, Dispose, Unregister, DisposeUnregister, Marker}
use Rattle.dur_base.specs.declared.sample.Form.{Form}
use Rattle.dur_base.specs.declared.sample.Form.TheVariants as forms
use Rattle.dur_base.specs.declared.sample.Sample.{Sample}
use Rattle.rtps_params.specs.Writing.{IsWritable}
use Rattle.rtps_submsg.specs.declared.sub.DataSub.{DataSub}
use Rattle.rtps_submsg.specs.declared.sub.Sub.{Sub}
use Rattle.rtps_submsg.specs.declared.sub.Sub.TheVariants.{Data}
use Rattle.rtps_submsg.specs.Writing.{sub_text, IsInRange, IsPayloadOf}
use Rattle.rtps_message.specs.declared.heard.Heard.{Heard}
use Rattle.rtps_message.specs.declared.heard.End.TheVariants.{Whole}
use Rattle.rtps_message.specs.Facts.{told_of}
use Rattle.rtps_message.specs.Messages.{Splits, Hears}
use Rattle.rtps_message.specs.Written.{opening, message, acknack_subs, heartbeat_subs, sample_subs, marker_subs, status_of, sent_set, IsSampleData, IsMarkerData, begin_at, IsWritten, ReadsBack, Tells, is_addressed, TellsOne, sample_raw, marker_raw}

-- ---- the submessages of a message

abbrev text_of : Sub → List ℕ
text_of s = sub_text true s

splits_back : (subs : List Sub) → AllByRecursion ReadsBack subs → AllByRecursion IsInRange subs → Splits (flat_map text_of subs) subs []
splits_back [] back range = refl
splits_back (s ∷ ss) back range = (
  length (sub_text true s),
  back.0 range.0 (flat_map text_of ss),
  subst (λ (t : List ℕ). Splits t ss []) (sym (drop_at (sub_text true s) (flat_map text_of ss) (length (sub_text true s)) refl)) (splits_back ss back.1 range.1),
)

hears_back : (own from : List ℕ) (subs : List Sub) → length from ≡ 12 → AllByRecursion ReadsBack subs → AllByRecursion IsInRange subs → Hears own (message from subs) (record { facts = told_of own (begin_at from) subs; end = Whole })
unfolding message
hears_back own from subs len back range =
    let head : List ℕ = 82 ∷ 84 ∷ 80 ∷ 83 ∷ 2 ∷ 5 ∷ 0 ∷ 0 ∷ [] in
    let body = flat_map text_of subs in
    let opening_len : length (opening from) ≡ 20 = omega (arith, length-append head from, len) in
    let behind : drop 20 (opening from ++ body) ≡ body = drop_at (opening from) body 20 opening_len in
    let source : take 12 (drop 8 (head ++ (from ++ body))) ≡ from = ap (take 12) (drop_at head (from ++ body) 8 refl) ∙ take_at from body 12 len in
    inl (
      record { long = omega (arith, opening_len, length-append (opening from) body); protocol = refl; major = refl },
      record {
        subs = subs;
        rest = [];
        splits = subst (λ (t : List ℕ). Splits t subs []) (sym behind) (splits_back subs back range);
        ends = refl;
        facts = ap (λ (p : List ℕ). told_of own (begin_at p) subs) (sym source);
      },
    )

-- the fact alone, or nothing
abbrev only : Bool → Fact → List Fact
only b fact = if b then fact ∷ [] else []

-- what was written tells what its submessages tell
pub tells_back : (old new prefix : List ℕ) (subs : List Sub) (n : ℕ) → length prefix ≡ 12 → IsWritten old new prefix subs n → AllByRecursion ReadsBack subs → AllByRecursion IsInRange subs → Tells prefix subs (take n new)
tells_back old new prefix subs n len w back range = λ own.
    let text : take n new ≡ message prefix subs = ap (take n) w.text ∙ take_at (message prefix subs) (drop n old) n (sym w.len) in
    let heard : Heard = record { facts = told_of own (begin_at prefix) subs; end = Whole } in
    subst (λ (t : List ℕ). Hears own t heard) (sym text) (hears_back own prefix subs len back range)

told_one : (prefix to bytes : List ℕ) (subs : List Sub) (fact : Fact) → Tells prefix subs bytes → ((own : List ℕ) → told_of own (begin_at prefix) subs ≡ only (is_addressed own to) fact)
    → TellsOne to bytes fact
told_one prefix to bytes subs fact tells one = λ own.
    let heard : List Fact → Heard = λ fs. record { facts = fs; end = Whole } in
    subst (λ (fs : List Fact). Hears own bytes (heard fs)) (one own) (tells own)

-- ---- whom a message is for

when_for : (b : Bool) (fact : Fact) → option_to_list (if b then Some fact else None) ++ [] ≡ only b fact
when_for true fact = refl
when_for false fact = refl

abbrev no_fact : Option Fact
no_fact = None

-- with a submessage before it that tells nothing
then_for : (b : Bool) (fact : Fact) → option_to_list (if b then no_fact else no_fact) ++ (option_to_list (if b then Some fact else None) ++ []) ≡ only b fact
then_for true fact = refl
then_for false fact = refl

-- ---- the four messages

heartbeat_told : (own from to writer : List ℕ) (last count : ℕ) → told_of own (begin_at from) (heartbeat_subs to writer last count) ≡ only (is_addressed own to) (facts.Beat (from ++ writer) (drop 12 to) 1 last false)
heartbeat_told own from to writer last count = when_for (is_addressed own to) (facts.Beat (from ++ writer) (drop 12 to) 1 last false)

pub heartbeat_back : (from to writer bytes : List ℕ) (last count : ℕ) → last < 2 ^ 63 → (AllByRecursion IsInRange (heartbeat_subs to writer last count) → Tells from (heartbeat_subs to writer last count) bytes)
    → TellsOne to bytes (facts.Beat (from ++ writer) (drop 12 to) 1 last false)
heartbeat_back from to writer bytes last count small back =
    told_one from to bytes (heartbeat_subs to writer last count) _ (back (tt, ((small, omega arith), tt))) (λ own. heartbeat_told own from to writer last count)

acknack_told : (own from to : List ℕ) (set : NumberSet) (is_final : Bool) (count : ℕ) → told_of own (begin_at (take 12 from)) (acknack_subs from to set is_final count) ≡ only (is_addressed own to) (facts.Nack from (drop 12 to) set is_final)
acknack_told own from to set is_final count = when_for (is_addressed own to) (facts.Nack (take 12 from ++ drop 12 from) (drop 12 to) set is_final) ∙ ap (λ (g : List ℕ). only (is_addressed own to) (facts.Nack g (drop 12 to) set is_final)) (take-append-drop 12 from)

pub acknack_back : (from to bytes : List ℕ) (set : NumberSet) (is_final : Bool) (count : ℕ) → (AllByRecursion IsInRange (acknack_subs from to set is_final count) → Tells (take 12 from) (acknack_subs from to set is_final count) bytes)
    → TellsOne to bytes (facts.Nack from (drop 12 to) set is_final)
acknack_back from to bytes set is_final count back =
    told_one (take 12 from) to bytes (acknack_subs from to set is_final count) _ (back (tt, (tt, tt))) (λ own. acknack_told own from to set is_final count)

marker_told : (own from to writer : List ℕ) (number : ℕ) (d : DataSub) → IsMarkerData to writer number d → told_of own (begin_at from) (marker_subs to d) ≡ only (is_addressed own to) (facts.Data (from ++ writer) (drop 12 to) number marker_raw)
marker_told own from to writer number d x = rw (x.reader, x.writer_is, x.number_is, x.inline, x.form, x.payload) (when_for (is_addressed own to) (facts.Data (from ++ writer) (drop 12 to) number marker_raw))

marker_range : (to writer : List ℕ) (number : ℕ) (d : DataSub) → IsMarkerData to writer number d → number ≤ 2 ^ 63 - 2 → IsInRange (Data d)
marker_range to writer number d x small = record {
  inline = subst IsWritable (sym x.inline) (record { strange = refl; status = omega arith; lifespan = tt; set = tt; original = tt });
  number = omega (arith, x.number_is, small);
  payload = subst (λ (f : Form). IsPayloadOf f d.payload.now) (sym x.form) x.payload;
}

pub marker_back : (from to writer bytes : List ℕ) (number : ℕ) (d : DataSub) → number ≤ 2 ^ 63 - 2 → IsMarkerData to writer number d → (AllByRecursion IsInRange (marker_subs to d) → Tells from (marker_subs to d) bytes)
    → TellsOne to bytes (facts.Data (from ++ writer) (drop 12 to) number marker_raw)
marker_back from to writer bytes number d small x back = told_one from to bytes (marker_subs to d) _ (back (tt, (marker_range to writer number d x small, tt))) (λ own. marker_told own from to writer number d x)

sample_told : (own from to writer : List ℕ) (number : ℕ) (s : Sample) (keyed : Bool) (d : DataSub) → IsSampleData to writer number s keyed d → length s.payload ≤ 65344
    → told_of own (begin_at from) (sample_subs to s.stamp d) ≡ only (is_addressed own to) (facts.Data (from ++ writer) (drop 12 to) number (sample_raw s keyed))
sample_told own from to writer number s keyed d x small = rw (x.reader, x.writer_is, x.number_is, x.inline, x.form, x.payload, le-leb (length s.payload) 65344 small) (then_for (is_addressed own to) (facts.Data (from ++ writer) (drop 12 to) number (sample_raw s keyed)))

payload_len : (form : Form) (payload : List ℕ) → IsPayload form payload → length payload ≤ 65344
payload_len forms.Nothing payload none = omega (arith, ap length none)
payload_len forms.Data payload small = small
payload_len forms.KeyOnly payload small = small

payload_of : (form : Form) (payload : List ℕ) → IsPayload form payload → IsPayloadOf form payload
payload_of forms.Nothing payload none = none
payload_of forms.Data payload small = tt
payload_of forms.KeyOnly payload small = tt

status_small : (act : Act) → status_of act ≤ 3
status_small Write = omega arith
status_small Dispose = omega arith
status_small Unregister = omega arith
status_small DisposeUnregister = omega arith
status_small Marker = omega arith

mark_sent : (set : SetMark) → IsMark set → IsMark (sent_set set)
mark_sent NoSet good = tt
mark_sent End good = tt
mark_sent (Of number) good = good

sample_range : (to writer : List ℕ) (number : ℕ) (s : Sample) (keyed : Bool) (d : DataSub) → IsSampleData to writer number s keyed d → IsGood s → number ≤ 2 ^ 63 - 2 → IsInRange (Data d)
sample_range to writer number s keyed d x good small = record {
  inline = subst IsWritable (sym x.inline) (record { strange = refl; status = status_small s.act; lifespan = good.lifespan; set = mark_sent s.set good.mark; original = good.original });
  number = omega (arith, x.number_is, small);
  payload = subst (λ (f : Form). IsPayloadOf f d.payload.now) (sym x.form) (subst (λ (t : List ℕ). IsPayloadOf s.form t) (sym x.payload) (payload_of s.form s.payload good.payload));
}

pub sample_back : (from to writer bytes : List ℕ) (number : ℕ) (s : Sample) (keyed : Bool) (d : DataSub) → number ≤ 2 ^ 63 - 2 → IsGood s → IsSampleData to writer number s keyed d → (AllByRecursion IsInRange (sample_subs to s.stamp d) → Tells from (sample_subs to s.stamp d) bytes)
    → TellsOne to bytes (facts.Data (from ++ writer) (drop 12 to) number (sample_raw s keyed))
sample_back from to writer bytes number s keyed d small good x back =
    told_one from to bytes (sample_subs to s.stamp d) _ (back (tt, (tt, (sample_range to writer number s keyed d x good small, tt))))
    (λ own. sample_told own from to writer number s keyed d x (payload_len s.form s.payload good.payload))
