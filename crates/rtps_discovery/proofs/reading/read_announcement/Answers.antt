use Rattle.std.proofs.Common.{◌≡◌, ◌∙◌, ap, Some, take, rules}
use Rattle.rtps_discovery.specs.Announcing.{guid_of, Says}
use Rattle.rtps_discovery.specs.declared.announcement.Announcement.{Announcement}
use Rattle.rtps_discovery.proofs.Payloads.{said_of, not_none, same_some}
use Rattle.rtps_discovery.proofs.reading.read_announcement.Goals as goal

pub returns-in_err-announcement-clause-all : goal.returns-in_err-announcement-clause-all
returns-in_err-announcement-clause-all c a h =
    let says : Says c.args.plan.now.topics c.in_ok-source.source c.args.raw.now a = said_of c.args.plan.now c.args.writer c.args.raw.now c.in_ok-source.source a (search rules) h in
    absurd (not_none c.said.result a c.in_err-announcement.was (c.said.ensures.all a (rw c.as_slice.ensures says)))

pub returns-then-eq-clause-all : goal.returns-then-eq-clause-all
returns-then-eq-clause-all c a h =
    let says : Says c.args.plan.now.topics c.in_ok-source.source c.args.raw.now a = said_of c.args.plan.now c.args.writer c.args.raw.now c.in_ok-source.source a (search rules) h in
    ap Some (same_some c.said.result c.in_ok-announcement.announcement a c.in_ok-announcement.was (c.said.ensures.all a (rw c.as_slice.ensures says)))

pub returns-else-eq-clause-all : goal.returns-else-eq-clause-all
returns-else-eq-clause-all c a h =
    let says : Says c.args.plan.now.topics c.in_ok-source.source c.args.raw.now a = said_of c.args.plan.now c.args.writer c.args.raw.now c.in_ok-source.source a (search rules) h in
    let same : c.in_ok-announcement.announcement ≡ a = same_some c.said.result c.in_ok-announcement.announcement a c.in_ok-announcement.was (c.said.ensures.all a (rw c.as_slice.ensures says)) in
    let own : take 12 (guid_of c.in_ok-announcement.announcement) ≡ take 12 c.args.writer = ap (λ (x : Announcement). take 12 (guid_of x)) same ∙ h.own in
    absurd (search rules)
