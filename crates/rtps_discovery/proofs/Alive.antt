-- Who is alive by what is kept.
use Rattle.std.proofs.Common.{◌≡◌, ℕ, ◌+◌, ◌*◌, ◌^◌, ◌<◌, ◌≤◌, Bool, true, false, List, ◌∷◌, length, Option, Some, None, refl, sym, ap, subst, ◌∙◌, arith, if◌then◌else◌}
use Rattle.std.specs.Prelude.{nat_lt, slice_get, option_map}
use Rattle.std.specs.BTreeMap.{get}
use Rattle.std.specs.Cmp.Lexicographic.{slice_cmp}
use Rattle.std.specs.List.{list_any}
use Rattle.std.specs.Ordering.{nat_cmp}
use Rattle.std.proofs.lemmas.Bool.{both_ways, leb-true, le-leb}
use Rattle.std.proofs.lemmas.List.{length-append}
use Rattle.dur_base.specs.declared.kinds.Durability.{Durability}
use Rattle.dur_qos.specs.declared.plan.Plan.{Plan}
use Rattle.dur_qos.specs.declared.plan.Topic.{Topic}
use Rattle.dur_qos.specs.declared.plan.WriterLine.{WriterLine}
use Rattle.dur_qos.specs.declared.plan.ReaderLine.{ReaderLine}
use Rattle.dur_qos.specs.Plan.{has_writer, has_reader}
use Rattle.dur_qos.specs.Served.{rank}
use Rattle.rtps_discovery.specs.declared.announcement.Announcement.{Announcement}
use Rattle.rtps_discovery.specs.declared.announcement.Announcement.TheVariants.{Participant, Writer, Reader, Gone}
use Rattle.rtps_discovery.specs.declared.announcement.Told.{Told}
use Rattle.rtps_discovery.specs.declared.directory.Directory.{Directory}
use Rattle.rtps_discovery.specs.declared.entry.Entry.{Entry}
use Rattle.rtps_discovery.specs.Announcing.{guid_of}
use Rattle.rtps_discovery.specs.Entries.{farewell_in}
use Rattle.rtps_discovery.specs.Fits.{IsLease}
use Rattle.rtps_discovery.specs.Hearing.{last_in, is_farewell, farewell_from, IsLastKept, KeepsBy, Keeps}
use Rattle.rtps_discovery.specs.Learnt.{counted, IsLast, IsWithin, IsAlive, IsThere, IsNewWriter, IsNewReader, seconds_of}
use Rattle.rtps_discovery.specs.Lines.{is_within, lease_in, lease_of, lease_at, lease_line, takes, writer_with, writer_in, reader_with, reader_in, writer_at, reader_at}
use Rattle.rtps_discovery.specs.Sources.{participant_of}
use Rattle.rtps_discovery.proofs.Lasts.{last_back, last_again, stays_from, stays_any, farewell_after}
use Rattle.rtps_discovery.proofs.Payloads.{not_none, same_some}

within_from : (lease : Option ℕ) (began now : ℕ) → is_within lease began now ≡ true → IsWithin lease began now
within_from None began now e = tt
within_from (Some ticks) began now e = leb-true now (began + ticks) e

within_is : (lease : Option ℕ) (began now : ℕ) → IsWithin lease began now → is_within lease began now ≡ true
within_is None began now h = refl
within_is (Some ticks) began now h = le-leb now (began + ticks) h

-- ---- what is kept of the last one

-- what is kept where there is a last one
record KeptOf (counted : List Told) (o : Option Entry) (last : Told) (after : List Told) : Type 0 where
  entry : Entry
  is : o ≡ Some entry
  what : entry.last ≡ last.what
  moment : entry.moment ≡ last.moment
  place : entry.place + length after ≡ length counted

kept_of : (counted : List Told) (guid : List ℕ) (o : Option Entry) (last : Told) (after : List Told) → IsLastKept counted guid o → last_in guid counted ≡ Some (last, after) → KeptOf counted o last after
kept_of counted guid None last after kept e = absurd (not_none (last_in guid counted) (last, after) kept e)
kept_of counted guid (Some x) last after kept e =
    let pair : (kept.0, kept.1) ≡ (last, after) = same_some (last_in guid counted) (kept.0, kept.1) (last, after) kept.2 e in
    let one : kept.0 ≡ last = ap (λ (p : Told × List Told). p.0) pair in
    let rest : kept.1 ≡ after = ap (λ (p : Told × List Told). p.1) pair in
    record {
      entry = x;
      is = refl;
      what = kept.3 ∙ ap (λ (t : Told). t.what) one;
      moment = kept.4 ∙ ap (λ (t : Told). t.moment) one;
      place = ap (λ (ts : List Told). x.place + length ts) (sym rest) ∙ kept.5;
    }

-- the last one, where something is kept
record LastOf (counted : List Told) (guid : List ℕ) (e : Entry) : Type 0 where
  last : Told
  after : List Told
  is_last : IsLast counted guid last after
  what : e.last ≡ last.what
  moment : e.moment ≡ last.moment
  place : e.place + length after ≡ length counted

last_of_kept : (counted : List Told) (guid : List ℕ) (o : Option Entry) (e : Entry) → IsLastKept counted guid o → o ≡ Some e → LastOf counted guid e
last_of_kept counted guid None e kept is = absurd (not_none None e refl is)
last_of_kept counted guid (Some x) e kept is =
    subst (LastOf counted guid) (same_some (Some x) x e refl is) (record { last = kept.0; after = kept.1; is_last = last_back guid counted kept.0 kept.1 kept.2; what = kept.3; moment = kept.4; place = kept.5 })

place_is : (counted : List Told) (guid : List ℕ) (last : Told) (after : List Told) (place : ℕ) (is : IsLast counted guid last after) → place + length after ≡ length counted → place ≡ length is.before + 1
place_is counted guid last after place is e = omega (arith, ap length is.parts, length-append is.before (last ∷ after), e)

-- a farewell behind a place, by what is kept of the participant
farewell_kept : (counted : List Told) (guid : List ℕ) (last : Told) (after : List Told) (place : ℕ) (p : List ℕ) (o : Option Entry) → IsLast counted guid last after → place + length after ≡ length counted → farewell_in o ≡ farewell_from p 0 0 counted → nat_lt place (farewell_in o) ≡ list_any (is_farewell p) after
farewell_kept counted guid last after place p o is e f =
    ap (nat_lt place) (f ∙ ap (farewell_from p 0 0) is.parts) ∙ farewell_after p is.before last after place (place_is counted guid last after place is e)

-- ---- leases

record LeaseOf (what : Announcement) (e : Entry) (place now : ℕ) (lease : Option ℕ) : Type 0 where
  guid : List ℕ
  says : what ≡ Participant guid lease
  stays : nat_lt place e.farewell ≡ false
  within : is_within lease e.moment now ≡ true

lease_tests : (guid : List ℕ) (b w : Bool) (l lease : Option ℕ) → (if b then None else if w then Some l else None) ≡ Some lease → (b ≡ false) × (w ≡ true) × (l ≡ lease)
lease_tests guid true w l lease h = absurd (not_none None lease refl h)
lease_tests guid false true l lease h = (refl, refl, same_some (Some l) l lease refl h)
lease_tests guid false false l lease h = absurd (not_none None lease refl h)

lease_is : (what : Announcement) (e : Entry) (place now : ℕ) (lease : Option ℕ) → lease_in what e place now ≡ Some lease → LeaseOf what e place now lease
lease_is (Participant guid l) e place now lease h =
    let all = lease_tests guid (nat_lt place e.farewell) (is_within l e.moment now) l lease h in
    record { guid = guid; says = ap (Participant guid) all.2; stays = all.0; within = ap (λ (x : Option ℕ). is_within x e.moment now) (sym all.2) ∙ all.1 }
lease_is (Writer guid topic kind) e place now lease h = absurd (not_none None lease refl h)
lease_is (Reader guid topic kind) e place now lease h = absurd (not_none None lease refl h)
lease_is (Gone guid) e place now lease h = absurd (not_none None lease refl h)

alive_from : (counted : List Told) (p : List ℕ) (o : Option Entry) (place now : ℕ) (lease : Option ℕ) → IsLastKept counted p o → lease_of o place now ≡ Some lease → IsAlive counted p lease now × (nat_lt place (farewell_in o) ≡ false)
alive_from counted p None place now lease kept h = absurd (not_none None lease refl h)
alive_from counted p (Some e) place now lease kept h =
    let k = last_of_kept counted p (Some e) e kept refl in
    let l = lease_is e.last e place now lease h in
    let what : k.last.what ≡ Participant l.guid lease = sym k.what ∙ l.says in
    let whose : l.guid ≡ p = sym (ap guid_of what) ∙ k.is_last.whose in
    (record { last = k.last; after = k.after; is_last = k.is_last; says = what ∙ ap (λ (g : List ℕ). Participant g lease) whose; within = subst (λ (m : ℕ). IsWithin lease m now) k.moment (within_from lease e.moment now l.within) }, l.stays)

alive_lease : (counted : List Told) (p : List ℕ) (o : Option Entry) (place now : ℕ) (lease : Option ℕ) → IsLastKept counted p o → IsAlive counted p lease now → nat_lt place (farewell_in o) ≡ false → lease_of o place now ≡ Some lease
alive_lease counted p o place now lease kept alive stays =
    let k = kept_of counted p o alive.last alive.after kept (last_again p counted alive.last alive.after alive.is_last) in
    let what : k.entry.last ≡ Participant p lease = k.what ∙ alive.says in
    let early : nat_lt place k.entry.farewell ≡ false = ap (λ (x : Option Entry). nat_lt place (farewell_in x)) (sym k.is) ∙ stays in
    let within : is_within lease k.entry.moment now ≡ true = within_is lease k.entry.moment now (subst (λ (m : ℕ). IsWithin lease m now) (sym k.moment) alive.within) in
    ap (λ (x : Option Entry). lease_of x place now) k.is ∙ ap (λ (w : Announcement). lease_in w k.entry place now) what ∙ rw (early, within) refl

-- ---- writers and readers

pub there_from : (count : ℕ) (kept : List ℕ → Option Entry) (told : List Told) (guid : List ℕ) (e : Entry) (what : Announcement) (now : ℕ) (lease : Option ℕ) → KeepsBy count kept told → kept guid ≡ Some e → e.last ≡ what → lease_of (kept (participant_of (guid_of what))) e.place now ≡ Some lease → (guid_of what ≡ guid) × IsThere (counted told) what lease now
there_from count kept told guid e what now lease keeps is says alive =
    let k = last_of_kept (counted told) guid (kept guid) e (keeps.each guid).last is in
    let p = participant_of (guid_of what) in
    let last : k.last.what ≡ what = sym k.what ∙ says in
    let whose : guid_of what ≡ guid = sym (ap guid_of last) ∙ k.is_last.whose in
    let a = alive_from (counted told) p (kept p) e.place now lease (keeps.each p).last alive in
    let none : list_any (is_farewell p) k.after ≡ false = sym (farewell_kept (counted told) guid k.last k.after e.place p (kept p) k.is_last k.place (keeps.each p).farewell) ∙ a.1 in
    (whose, record { last = k.last; after = k.after; is_last = subst (λ (g : List ℕ). IsLast (counted told) g k.last k.after) (sym whose) k.is_last; says = last; stays = stays_from p k.after none; participant = a.0 })

-- what is kept of one that is there
pub record ThereBy (kept : List ℕ → Option Entry) (what : Announcement) (now : ℕ) (lease : Option ℕ) : Type 0 where
  pub entry : Entry
  pub is : kept (guid_of what) ≡ Some entry
  pub says : entry.last ≡ what
  pub alive : lease_of (kept (participant_of (guid_of what))) entry.place now ≡ Some lease

pub there_back : (count : ℕ) (kept : List ℕ → Option Entry) (told : List Told) (what : Announcement) (now : ℕ) (lease : Option ℕ) → KeepsBy count kept told → IsThere (counted told) what lease now → ThereBy kept what now lease
there_back count kept told what now lease keeps there =
    let guid = guid_of what in
    let p = participant_of guid in
    let k = kept_of (counted told) guid (kept guid) there.last there.after (keeps.each guid).last (last_again guid (counted told) there.last there.after there.is_last) in
    let stays : nat_lt k.entry.place (farewell_in (kept p)) ≡ false = farewell_kept (counted told) guid there.last there.after k.entry.place p (kept p) there.is_last k.place (keeps.each p).farewell ∙ stays_any p there.after there.stays in
    record { entry = k.entry; is = k.is; says = k.what ∙ there.says; alive = alive_lease (counted told) p (kept p) k.entry.place now lease (keeps.each p).last there.participant stays }

-- ---- their lines

pub seconds_small : (ticks : ℕ) → ticks < 0x7fffffff * 2 ^ 32 → (0 < seconds_of ticks) × (seconds_of ticks ≤ 2147483647)
seconds_small ticks lt = (omega (arith, lt), omega (arith, lt))

lease_line_is : (lease : Option ℕ) → IsLease lease → lease_line lease ≡ option_map seconds_of lease
lease_line_is None h = refl
lease_line_is (Some ticks) h = ap Some (omega (arith, seconds_small ticks h))

record WriterOf (what : Announcement) (plan : Plan) (d : Directory) (place now : ℕ) (line : WriterLine) : Type 0 where
  kind : Durability
  lease : Option ℕ
  says : what ≡ Writer line.guid line.topic kind
  taken : takes (slice_get plan.topics line.topic) kind ≡ true
  unnamed : has_writer line.guid plan.writers ≡ false
  alive : lease_at d line.guid place now ≡ Some lease
  lease_is : line.lease ≡ lease_line lease

writer_given : (plan : Plan) (d : Directory) (guid : List ℕ) (topic : ℕ) (kind : Durability) (place now : ℕ) (line : WriterLine) (t n : Bool) (o : Option (Option ℕ)) → takes (slice_get plan.topics topic) kind ≡ t → has_writer guid plan.writers ≡ n → lease_at d guid place now ≡ o → (if t then (if n then None else writer_with guid topic o) else None) ≡ Some line → WriterOf (Writer guid topic kind) plan d place now line
writer_given plan d guid topic kind place now line false n o e f g h = absurd (not_none None line refl h)
writer_given plan d guid topic kind place now line true true o e f g h = absurd (not_none None line refl h)
writer_given plan d guid topic kind place now line true false None e f g h = absurd (not_none None line refl h)
writer_given plan d guid topic kind place now line true false (Some lease) e f g h =
    let given : WriterLine = record { guid = guid; topic = topic; lease = lease_line lease } in
    let same : given ≡ line = same_some (Some given) given line refl h in
    subst (WriterOf (Writer guid topic kind) plan d place now) same (record { kind = kind; lease = lease; says = refl; taken = e; unnamed = f; alive = g; lease_is = refl })

writer_of : (what : Announcement) (plan : Plan) (d : Directory) (place now : ℕ) (line : WriterLine) → writer_in what plan d place now ≡ Some line → WriterOf what plan d place now line
writer_of (Writer guid topic kind) plan d place now line h =
    writer_given plan d guid topic kind place now line (takes (slice_get plan.topics topic) kind) (has_writer guid plan.writers) (lease_at d guid place now) refl refl refl h
writer_of (Participant guid lease) plan d place now line h = absurd (not_none None line refl h)
writer_of (Reader guid topic kind) plan d place now line h = absurd (not_none None line refl h)
writer_of (Gone guid) plan d place now line h = absurd (not_none None line refl h)

record TopicOf (o : Option Topic) (kind : Durability) : Type 0 where
  topic : Topic
  is : o ≡ Some topic
  enough : rank topic.kind ≤ rank kind

topic_of : (o : Option Topic) (kind : Durability) → takes o kind ≡ true → TopicOf o kind
topic_of None kind e = absurd (both_ways false refl e)
topic_of (Some topic) kind e = record { topic = topic; is = refl; enough = leb-true (rank topic.kind) (rank kind) e }

abbrev pub kept_in : Directory → List ℕ → Option Entry
kept_in d guid = get (slice_cmp nat_cmp) d.entries guid

pub writer_from : (plan : Plan) (d : Directory) (told : List Told) (now : ℕ) (guid : List ℕ) (e : Entry) (line : WriterLine) → Keeps d told → ((p : List ℕ) (lease : Option ℕ) → IsAlive (counted told) p lease now → IsLease lease) → kept_in d guid ≡ Some e → writer_at plan d now e ≡ Some line → (line.guid ≡ guid) × IsNewWriter plan (counted told) now line
writer_from plan d told now guid e line keeps fine is h =
    let w = writer_of e.last plan d e.place now line h in
    let there = there_from d.count (kept_in d) told guid e (Writer line.guid line.topic w.kind) now w.lease keeps is w.says w.alive in
    let t = topic_of (slice_get plan.topics line.topic) w.kind w.taken in
    (there.0, record { kind = w.kind; topic = t.topic; lease = w.lease; there = there.1; topic_is = t.is; enough = t.enough; lease_is = w.lease_is ∙ lease_line_is w.lease (fine (participant_of line.guid) w.lease there.1.participant); unnamed = w.unnamed })

-- the entry that gives a line
pub record GivenBy {L : Type 0} (d : Directory) (guid : List ℕ) (line_at : Entry → Option L) (line : L) : Type 0 where
  pub entry : Entry
  pub is : kept_in d guid ≡ Some entry
  pub gives : line_at entry ≡ Some line

pub writer_back : (plan : Plan) (d : Directory) (told : List Told) (now : ℕ) (line : WriterLine) → Keeps d told → ((p : List ℕ) (lease : Option ℕ) → IsAlive (counted told) p lease now → IsLease lease) → IsNewWriter plan (counted told) now line → GivenBy d line.guid (writer_at plan d now) line
writer_back plan d told now line keeps fine new =
    let b = there_back d.count (kept_in d) told (Writer line.guid line.topic new.kind) now new.lease keeps new.there in
    let taken : takes (slice_get plan.topics line.topic) new.kind ≡ true = ap (λ (o : Option Topic). takes o new.kind) new.topic_is ∙ le-leb (rank new.topic.kind) (rank new.kind) new.enough in
    let lease : lease_line new.lease ≡ line.lease = lease_line_is new.lease (fine (participant_of line.guid) new.lease new.there.participant) ∙ sym new.lease_is in
    record {
      entry = b.entry;
      is = b.is;
      gives = ap (λ (w : Announcement). writer_in w plan d b.entry.place now) b.says ∙ rw (taken, new.unnamed, b.alive) (ap (λ (l : Option ℕ). Some (record { guid = line.guid; topic = line.topic; lease = l })) lease);
    }

record ReaderOf (what : Announcement) (plan : Plan) (d : Directory) (place now : ℕ) (line : ReaderLine) : Type 0 where
  lease : Option ℕ
  says : what ≡ Reader line.guid line.topic line.kind
  unnamed : has_reader line.guid plan.readers ≡ false
  alive : lease_at d line.guid place now ≡ Some lease

reader_given : (plan : Plan) (d : Directory) (guid : List ℕ) (topic : ℕ) (kind : Durability) (place now : ℕ) (line : ReaderLine) (n : Bool) (o : Option (Option ℕ)) → has_reader guid plan.readers ≡ n → lease_at d guid place now ≡ o → (if n then None else reader_with guid topic kind o) ≡ Some line → ReaderOf (Reader guid topic kind) plan d place now line
reader_given plan d guid topic kind place now line true o f g h = absurd (not_none None line refl h)
reader_given plan d guid topic kind place now line false None f g h = absurd (not_none None line refl h)
reader_given plan d guid topic kind place now line false (Some lease) f g h =
    let given : ReaderLine = record { guid = guid; topic = topic; kind = kind } in
    let same : given ≡ line = same_some (Some given) given line refl h in
    subst (ReaderOf (Reader guid topic kind) plan d place now) same (record { lease = lease; says = refl; unnamed = f; alive = g })

reader_of : (what : Announcement) (plan : Plan) (d : Directory) (place now : ℕ) (line : ReaderLine) → reader_in what plan d place now ≡ Some line → ReaderOf what plan d place now line
reader_of (Reader guid topic kind) plan d place now line h =
    reader_given plan d guid topic kind place now line (has_reader guid plan.readers) (lease_at d guid place now) refl refl h
reader_of (Participant guid lease) plan d place now line h = absurd (not_none None line refl h)
reader_of (Writer guid topic kind) plan d place now line h = absurd (not_none None line refl h)
reader_of (Gone guid) plan d place now line h = absurd (not_none None line refl h)

pub reader_from : (plan : Plan) (d : Directory) (told : List Told) (now : ℕ) (guid : List ℕ) (e : Entry) (line : ReaderLine) → Keeps d told → kept_in d guid ≡ Some e → reader_at plan d now e ≡ Some line → (line.guid ≡ guid) × IsNewReader plan (counted told) now line
reader_from plan d told now guid e line keeps is h =
    let r = reader_of e.last plan d e.place now line h in
    let there = there_from d.count (kept_in d) told guid e (Reader line.guid line.topic line.kind) now r.lease keeps is r.says r.alive in
    (there.0, record { lease = r.lease; there = there.1; unnamed = r.unnamed })

pub reader_back : (plan : Plan) (d : Directory) (told : List Told) (now : ℕ) (line : ReaderLine) → Keeps d told → IsNewReader plan (counted told) now line → GivenBy d line.guid (reader_at plan d now) line
reader_back plan d told now line keeps new =
    let b = there_back d.count (kept_in d) told (Reader line.guid line.topic line.kind) now new.lease keeps new.there in
    record {
      entry = b.entry;
      is = b.is;
      gives = ap (λ (w : Announcement). reader_in w plan d b.entry.place now) b.says ∙ rw (new.unnamed, b.alive) refl;
    }
