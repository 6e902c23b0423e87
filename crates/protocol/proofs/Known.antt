-- What the register knows: a statement's message is no other's, so sealing one adds that statement alone, and bytes that read and are sealed were stated.
use Rattle.std.proofs.Common.{◌≡◌, ℕ, zero, suc, ◌+◌, ◌*◌, ◌<◌, ◌≤◌, Bool, T, ◌⊎◌, List, [], ◌∷◌, length, get_or, None, Ok, refl, subst, not-suc-le-zero, arith}
use Rattle.std.proofs.lemmas.Bool.Decides.{nat_tests}
use Rattle.std.proofs.lemmas.Slice.Eq.{bytes_eq-Decides}
use Rattle.wire.specs.declared.config.ClusterConfig.{ClusterConfig}
use Rattle.wire.specs.declared.entry.LogEntry.{LogEntry}
use Rattle.wire.specs.Bytes.{Bytes}
use Rattle.wire.specs.Configs.{replicas}
use Rattle.wire.specs.Kinds.{last_view, last_number}
use Rattle.wire.specs.Laws.{Fits}
use Rattle.wire.specs.Reading.{reading}
use Rattle.wire.specs.Statements.{Statement, Said, report}
use Rattle.wire.specs.Writing.{late_entry}
use Rattle.wire.proofs.Laws.{written_reads, read_is_written}
use Rattle.protocol.specs.Certificates.{message, known}
use Rattle.protocol.specs.Receipts.{Made}
use Rattle.protocol.specs.Verdicts.{added}

-- ---- statements in range

-- the entries of a report are of earlier views
early : (view offset : ℕ) (es : List LogEntry) → late_entry view offset es ≡ None → (k : ℕ) (d : LogEntry) → k < length es → (get_or es k d).view < view
early view offset [] e k d l = absurd (not-suc-le-zero l)
early view offset (x ∷ es) e zero d l = grind (arith, nat_tests)
early view offset (x ∷ es) e (suc k) d l = grind (arith, early view (offset + 18) es)

none_late : (view offset : ℕ) (es : List LogEntry) (d : LogEntry) → ((k : ℕ) → k < length es → (get_or es k d).view < view) → late_entry view offset es ≡ None
none_late view offset [] d below = refl
none_late view offset (x ∷ es) d below = grind (arith, nat_tests, below 0, none_late view (offset + 18) es d (λ k l. below (suc k) (omega arith)))

pub fits_report : (config : ClusterConfig) (h view : ℕ) (es : List LogEntry) (d : LogEntry) → h < replicas config → view ≤ last_view → length es ≤ last_number
    → ((k : ℕ) → k < length es → (get_or es k d).view < view) → Fits config h (report view es)
fits_report config h view es d inside small few below = grind (arith, nat_tests, none_late view (7 + 6 * length es) es d below)

pub report_in_range : (config : ClusterConfig) (h view : ℕ) (es : List LogEntry) → Fits config h (report view es)
    → (length es ≤ last_number) × ((k : ℕ) (d : LogEntry) → k < length es → (get_or es k d).view < view)
report_in_range config h view es e = grind (arith, nat_tests, early view (7 + 6 * length es) es)

-- ---- sealing

-- another replica's seal adds nothing to what a replica made
pub made_by_others : (config : ClusterConfig) (sealed : ℕ → List ℕ → Bool) (h : ℕ) (bytes : List ℕ) (g : ℕ) (s : Statement)
    → (g ≡ h → ⊥) → Made config (added sealed h bytes) g s → Made config sealed g s
made_by_others config sealed h bytes g s other made = grind (arith, nat_tests)

-- ---- by the laws of the wire format

pub messages_equal : (config : ClusterConfig) (h g : ℕ) (s s' : Statement) → Fits config h s → Fits config g s' → message h s ≡ message g s' → (h ≡ g) × (s ≡ s')
unfolding message
messages_equal config h g s s' fit fit' e = grind (arith, written_reads config h s fit, written_reads config g s' fit')

-- what is made once a statement was sealed: what was made before, and the statement
pub made_after : (config : ClusterConfig) (sealed : ℕ → List ℕ → Bool) (h : ℕ) (new : Statement) → Fits config h new
    → (g : ℕ) (s : Statement) → Made config (added sealed h (message h new)) g s → Made config sealed g s ⊎ ((g ≡ h) × (s ≡ new))
made_after config sealed h new fit g s made =
    grind (arith, nat_tests, bytes_eq-Decides (message h new) (message g s), messages_equal config h g new s fit made.0)

-- bytes that read and are sealed were stated
pub made_heard : (config : ClusterConfig) (sealed : ℕ → List ℕ → Bool) (bytes : List ℕ) (said : Said) → Bytes bytes → reading config bytes ≡ Ok said
    → T (sealed said.replica bytes) → Made config sealed said.replica said.statement
unfolding message
made_heard config sealed bytes said small reads known =
    let is = read_is_written config bytes said small reads in
    (is.fits, subst (λ (b : List ℕ). T (sealed said.replica b)) is.written known)
