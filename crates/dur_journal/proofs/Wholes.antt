-- A history whose start lacks nothing is its completed one.
use Rattle.std.proofs.Common.{◌≡◌, List, [], ◌∷◌, refl, sym, ap, ◌∙◌, subst}
use Rattle.dur_base.specs.declared.entry.Entry.{Entry}
use Rattle.dur_qos.specs.declared.plan.Plan.{Plan}
use Rattle.dur_view.specs.declared.data.View.{View}
use Rattle.dur_view.specs.History.{History, Start, ◌▸◌, ◌+>◌, start, AllFollow}
use Rattle.dur_view.specs.Full.{full, filled}
use Rattle.dur_view.specs.IsSound.{IsHistory}
use Rattle.dur_view.specs.Persistent.{persistent_plan}
use Rattle.dur_journal.specs.Histories.{completed, IsWhole}

-- a history over a view that is full
pub filled_same : (plan : Plan) (h : History) → full plan (start h) ≡ start h → filled plan h ≡ h
filled_same plan (Start v) whole = ap Start whole
filled_same plan (h ▸ e) whole = ap (λ (g : History). g ▸ e) (filled_same plan h whole)

pub filled_more : (plan : Plan) (h : History) (es : List Entry) → filled plan (h +> es) ≡ filled plan h +> es
filled_more plan h [] = refl
filled_more plan h (e ∷ es) = filled_more plan (h ▸ e) es

pub whole_same : (plan : Plan) (h : History) (v : View) → start h ≡ v → IsWhole plan v → h ≡ completed plan h
unfolding completed IsWhole
whole_same plan h v begins whole = sym (filled_same (persistent_plan plan) h (ap (full (persistent_plan plan)) begins ∙ whole ∙ sym begins))

-- entries that follow a history make one
pub history_more : (h : History) (es : List Entry) → IsHistory h → AllFollow h es → IsHistory (h +> es)
history_more h [] history follow = history
history_more h (e ∷ es) history follow = history_more (h ▸ e) es (history, follow.0) follow.1
