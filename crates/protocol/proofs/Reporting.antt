-- Reporting, and holding a report that is heard, keep what an honest replica keeps: a report that is held has a certificate for each entry.
use Rattle.std.proofs.Common.{◌≡◌, ℕ, zero, suc, ◌+◌, ◌<◌, ◌≤◌, Bool, true, false, cond, T, List, [], ◌∷◌, length, get_or, take, set, Some, None, Option, sym, refl, ◌∙◌, subst, ⊎_elim, not-suc-le-zero, add-zero, arith, length-set, length-take-le, get_or-take}
use Rattle.std.proofs.lemmas.Bool.Decides.{nat_tests}
use Rattle.std.proofs.lemmas.Grind.{elements}
use lib.Dec.{not_T}
use lib.Seq.{take-append_seam}
use Rattle.wire.specs.declared.config.ClusterConfig.{ClusterConfig}
use Rattle.wire.specs.declared.entry.LogEntry.{LogEntry}
use Rattle.wire.specs.declared.request.Request.{Request}
use Rattle.wire.specs.Configs.{replicas}
use Rattle.wire.specs.Kinds.{last_view, last_number}
use Rattle.wire.specs.Statements.{Statement, report, reply}
use Rattle.groups.specs.Groups.{group, member}
use Rattle.protocol.specs.declared.state.HeldReport.{HeldReport}
use Rattle.protocol.specs.declared.state.Phase.{Phase}
use Rattle.protocol.specs.declared.state.Phase.TheVariants.{Aside, Gathering}
use Rattle.protocol.specs.declared.state.State.{State}
use Rattle.protocol.specs.Certificates.{size, known, certified, uncertified}
use Rattle.protocol.specs.Facts.{Facts}
use Rattle.protocol.specs.Receipts.{Made}
use Rattle.protocol.specs.Replay.{RequestMachine}
use Rattle.protocol.specs.Rules.{Certified, HasEntry}
use Rattle.protocol.specs.Selecting.{holds}
use Rattle.protocol.specs.States.{blank_entry, most_replicas, working, turning, active, entries, entries_in, held, noted, changed_to, as_held, with_report, reported}
use Rattle.protocol.specs.Steps.{Effect, rest, accepted, report_step, hear_report}
use Rattle.protocol.specs.Votes.{vote}
use Rattle.protocol.proofs.Tests.{as_accepted, every_at}
use Rattle.protocol.proofs.Lists.{has_entry}
use Rattle.protocol.proofs.Known.{fits_report, report_in_range}
use Rattle.protocol.proofs.Parts.{has_closed, serving, Shape, Reports, Holds, Inv}
use Rattle.protocol.proofs.Grow.{Adds, Keeps, certified_grows, inv_adds, chosen_grows, replied_grows}

-- ---- certificates

-- every entry of a report that lacks none has a certificate
certified_each : (config : ClusterConfig) (sealed : ℕ → List ℕ → Bool) (number : ℕ) (es : List LogEntry) → uncertified config sealed number es ≡ None
    → (k : ℕ) (d : LogEntry) → k < length es → T (certified config sealed (get_or es k d).view (number + k) (get_or es k d).request)
certified_each config sealed number [] e k d l = absurd (not-suc-le-zero l)
certified_each config sealed number (x ∷ es) e zero d l = grind (arith, add-zero number)
certified_each config sealed number (x ∷ es) e (suc k) d l =
    let same : suc number + k ≡ number + suc k = omega arith in
    rw same at (certified_each config sealed (suc number) es (grind arith) k d (omega arith))

-- the votes of the certificates were made
certificates : (config : ClusterConfig) (sealed : ℕ → List ℕ → Bool) (view : ℕ) (es : List LogEntry) → view ≤ last_view
    → (length es ≤ last_number) × ((k : ℕ) (d : LogEntry) → k < length es → (get_or es k d).view < view) → uncertified config sealed 1 es ≡ None
    → (k : ℕ) → k < length es → (h : ℕ) → h < replicas config → T (member config (get_or es k blank_entry).view h)
    → Made config sealed h (vote config (get_or es k blank_entry).view h (suc k) (get_or es k blank_entry).request)
certificates config sealed view es low (short, early) none k l h inside grouped =
    let entry = get_or es k blank_entry in
    let number : 1 + k ≡ suc k = omega arith in
    let found = subst (λ (n : ℕ). T (certified config sealed entry.view n entry.request)) number (certified_each config sealed 1 es none k blank_entry l) in (
      grind (arith, nat_tests, early k blank_entry l),
      every_at (group config entry.view) (λ h. known sealed h (vote config entry.view h (suc k) entry.request)) found h grouped,
    )

-- ---- one report more

-- the entries of a report that is held: short, earlier and certified
abbrev Sound : ClusterConfig → {machine : RequestMachine} → Facts machine → (view : ℕ) → List LogEntry → Type 0
Sound config {machine} facts view es =
    (k : ℕ) → k < length es
    → ((get_or es k blank_entry).view < view) × Certified config machine facts (get_or es k blank_entry).view (suc k) (get_or es k blank_entry).request

report_held : (machine : RequestMachine) (facts : Facts machine) (s : State) → Shape s → Holds s.config machine facts s.number s.view (held s) (noted s)
    → (g : ℕ) (a : HeldReport) (es : List LogEntry) → g < replicas s.config → take a.len a.entries ≡ es
    → facts.Known g (report s.view es) → length es ≤ last_number → Sound s.config facts s.view es
    → Holds s.config machine facts s.number s.view (λ x. entries_in (get_or (set s.reports g (Some a)) x None)) (noted s)
report_held machine facts s shape holds g a es inside is known short sound =
    record {
      reported = λ x es' e. grind (arith, elements, holds.reported x es', known);
      short = λ x es' e. grind (arith, elements, holds.short x es', short);
      certified = λ x es' e. grind (arith, elements, holds.certified x es', sound);
      noted_closing = holds.noted_closing;
    }

-- ---- reporting

module _ (machine : RequestMachine) (facts facts' : Facts machine) (s : State) (state : machine.State) (inv : Inv machine facts s state)
    (turns : T (turning s.phase)) where
  idle : T (working s.phase) → ⊥
  idle t = grind arith

  long_entries : length (entries s) ≡ s.logged
  long_entries = length-take-le s.logged s.log (omega (arith, inv.shape.long_log, inv.shape.few_logged))

  early_entries : (k : ℕ) → k < length (entries s) → (get_or (entries s) k blank_entry).view < s.view
  early_entries k l =
      grind (arith, get_or-take s.logged s.log k blank_entry, long_entries, inv.logs.earlier (not_T (working s.phase) idle) k)

  module _ (adds : Adds facts facts' s.number (Some (report s.view (entries s)))) where
    -- the report has what was replied to before
    replied_entered : (v n : ℕ) (r : Request) (outcome : ℕ) → facts.Known s.number (reply v n r outcome) → HasEntry (entries s) n v
    replied_entered v n r outcome known =
        let behind = inv.replies.replied v n r outcome known in
        let there = inv.replies.entered v behind.before r outcome (rw behind.numbered at known) in
        rw behind.numbered (has_entry s.log s.logged behind.before v there.0 (omega (arith, inv.shape.long_log, inv.shape.few_logged)) there.1)

    reports_more : Reports s.config machine facts' s.number s.view
    reports_more =
        record {
          none_later = λ w es known. grind (arith, inv.reports.none_later w es, adds.only (report w es) known);
          kept = λ v n r outcome w es later known reports.
              let replied : facts.Known s.number (reply v n r outcome) = grind (arith, adds.only _ known) in
              ⊎_elim (λ old. inv.reports.kept v n r outcome w es later replied old)
              (λ e. let same : entries s ≡ es = cc in subst (λ (l : List LogEntry). HasEntry l n v) same (replied_entered v n r outcome replied))
              (adds.only (report w es) reports);
        }

    -- in a phase in which it has reported and not closed, with these reports held
    reported_keeps : (phase : Phase) (reports : List (Option HeldReport)) → (T (working phase) → ⊥) → (T (has_closed phase) → ⊥)
        → length reports ≡ most_replicas → (T (serving phase) → T (active s))
        → Holds s.config machine facts' s.number s.view (λ x. entries_in (get_or reports x None)) (noted s)
        → Inv machine facts' (changed_to s s.view phase reports s.closings) state
    reported_keeps phase reports idle' unclosed long grouped holds =
        record {
          shape = search (arith, inv.shape);
          votes = search (arith, adds.only, inv.votes, chosen_grows s.config adds.grows);
          prepares = search arith;
          executes = search arith;
          replies = search (arith, adds.only, inv.replies, replied_grows s.config adds.grows);
          logs = search (arith, inv.logs, certified_grows s.config adds.grows);
          reports = reports_more;
          closings = search (arith, adds.only, inv.closings);
          holds = holds;
          opens = search arith;
        }

    holds_more : Holds s.config machine facts' s.number s.view (held s) (noted s)
    holds_more = search (arith, adds.grows.known, inv.holds, certified_grows s.config adds.grows)

    -- a member holds its own report and gathers, another steps aside
    reporting_keeps : Inv machine facts' (reported s) state
    reporting_keeps = go (active s) refl
      where
        own : HeldReport
        own = record { len = s.logged; entries = s.log }

        own_certified : Sound s.config facts' s.view (entries s)
        own_certified k l =
            let below : k < s.logged = omega (arith, long_entries) in
            (early_entries k l, rw (get_or-take s.logged s.log k blank_entry below) (certified_grows s.config adds.grows _ (suc k) _ (inv.logs.certified k below)))

        go : (member : Bool) → active s ≡ member
            → Inv machine facts' (cond member (with_report s Gathering s.number own) (changed_to s s.view Aside s.reports s.closings)) state
        go true is =
            reported_keeps Gathering (set s.reports s.number (Some own)) (λ t. t) (λ t. t)
            (length-set s.reports s.number (Some own) ∙ inv.shape.long_reports) (λ t. subst T (sym is) tt)
            (report_held machine facts' s inv.shape holds_more s.number own (entries s) inv.shape.inside refl
            (adds.new (report s.view (entries s)) refl) (rw long_entries inv.shape.few_logged) own_certified)
        go false is = reported_keeps Aside s.reports (λ t. t) (λ t. t) inv.shape.long_reports (λ t. absurd t) holds_more

hold_keeps : {machine : RequestMachine} {facts : Facts machine} {s : State} {state : machine.State} → Inv machine facts s state → (g : ℕ) (es : List LogEntry) → g < replicas s.config → facts.Known g (report s.view es) → length es ≤ last_number
    → Sound s.config facts s.view es
    → Inv machine facts (with_report s s.phase g (as_held es)) state
hold_keeps {machine} {facts} {s} inv g es inside known short certified =
    let shape : Shape (with_report s s.phase g (as_held es)) = search (arith, length-set {A = Option HeldReport}, inv.shape) in
    let holds = report_held machine facts s inv.shape inv.holds g (as_held es) es inside (take-append_seam es _) known short certified in
    assumption

module _ (sealed : ℕ → List ℕ → Bool) (fits : ℕ → Bool) (room : ℕ) {machine : RequestMachine} {facts facts' : Facts machine} {s : State} {state : machine.State}
    (inv : Inv machine facts s state) {s' : State} {effect : Effect} {statement : Option Statement} {answer : ℕ} where
  pub report_keeps : report_step sealed fits room s ≡ accepted s' effect statement answer → Keeps facts facts' s state s' effect statement
  report_keeps e =
      let says = report s.view (entries s) in
      let is : T (turning s.phase) × (accepted (reported s) rest (Some says) (size says) ≡ accepted s' effect statement answer) = grind arith in
      as_accepted (Keeps facts facts' s state) is.1
      (record {
        in_range =
            fits_report s.config s.number s.view (entries s) blank_entry inv.shape.inside inv.shape.low_view
            (rw (long_entries machine facts facts' s state inv is.0) inv.shape.few_logged) (early_entries machine facts facts' s state inv is.0);
        keeps = λ adds. reporting_keeps machine facts facts' s state inv is.0 adds;
      })

  -- a report is held only if no entry lacks its certificate
  pub hear_report_keeps : (knows : (x : ℕ) (st : Statement) → Made s.config sealed x st → facts.Known x st)
      → (g view : ℕ) (es : List LogEntry) → view ≡ s.view → Made s.config sealed g (report view es)
      → hear_report sealed fits room s g es ≡ accepted s' effect statement answer → Keeps facts facts' s state s' effect statement
  hear_report_keeps knows g view es same made e =
      let is : (uncertified s.config sealed 1 es ≡ None) × (accepted (with_report s s.phase g (as_held es)) rest None 0 ≡ accepted s' effect statement answer) =
      grind arith in
      let range = report_in_range s.config g view es made.0 in
      let kept =
      hold_keeps inv g es (grind (arith, nat_tests, made.0)) (rw same at (knows g (report view es) made)) range.0
      (λ k l. (rw same at (range.1 k blank_entry l), λ h inside grouped. knows h _ (certificates s.config sealed view es (rw same inv.shape.low_view) range is.0 k l h inside grouped)))
      in
      as_accepted (Keeps facts facts' s state) is.1
      (record { in_range = tt; keeps = λ adds. inv_adds adds (λ st e. cc) kept })
