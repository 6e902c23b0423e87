-- Where the next entry of a log goes, now and after further ones.
use Rattle.std.proofs.Common.{◌≡◌, ◌+◌, ◌∷◌, length, sum_by, zero-add, arith}
use mathlib.Core.Path.{fun_ext}
use Rattle.seals.specs.declared.log.EntryLog.{EntryLog}
use Rattle.std.proofs.lemmas.List.Sums.{sum_by-cons}
use Rattle.seals.specs.Registers.{Pair, after}
use Rattle.seals.specs.Layout.{width}
use Rattle.seals.specs.Logs.{new_place, place}

-- a log with nothing in it
pub place_new : (l : EntryLog) → l.used ≡ 0 → place l ≡ new_place (length l.memory.now)
unfolding place
place_new l e = fun_ext (λ ps. fun_ext (λ n. rw (e, zero-add)))

-- once an entry is appended, the next one goes where it would have gone after it
pub place_after : (l m : EntryLog) (p : Pair) → length m.memory.now ≡ length l.memory.now → m.used ≡ l.used + width p → place m ≡ after (place l) p
unfolding place
place_after l m p space used = fun_ext (λ ps. fun_ext (λ n.
    let e : m.used + sum_by width ps ≡ l.used + sum_by width (p ∷ ps) = omega (arith, sum_by-cons width p ps) in
    rw (space, e)))
