-- where the symbols that both stacks have lead
use Rattle.std.proofs.Common.{◌≡◌, ℕ, List, [], ◌∷◌, ◌++◌, refl, append_assoc, append-nil, Option, None, Some}
use Rattle.std.specs.Option.{option_and_then}
use Rattle.lrspec.specs.grammars.Grammar.{Symbol}
use Rattle.lrspec.specs.merging.Graph as graph
use Rattle.lrspec.specs.merging.Graph.{Graph, Leads, edge}
use Rattle.lrexchange.specs.Positions as position
use Rattle.lrexchange.specs.Positions.{Follows}
use Rattle.lrkept.proofs.FollowedEdges.{follow, leads_once, leads_parts}

-- symbols that are followed from where a list leads lead on
pub leads_after : {h : Graph} {z c : List Symbol} {s q : ℕ} → Leads h z s → Follows h s c q → Leads h (z ++ c) q
leads_after {z = z} l position.Follows.here = rw (append-nil z) l
leads_after {z = z} l (position.Follows.there {x = x} {xs = xs} e k) =
    rw (append_assoc z (x ∷ []) xs) at (leads_after (graph.Leads.follow x l e) k)

-- the edges on symbols are followed
follows_by : {h : Graph} (xs : List Symbol) (s u : ℕ) → follow h s xs ≡ Some u → Follows h s xs u
follows_by [] s u e = let same : s ≡ u = cc in rw same position.Follows.here
follows_by {h} (x ∷ xs) s u e = go (edge h s x) refl (λ v. follows_by xs v u) e
  where
    go :
        (o : Option ℕ) → edge h s x ≡ o → ((v : ℕ) → follow h v xs ≡ Some u → Follows h v xs u)
        → option_and_then (λ v. follow h v xs) o ≡ Some u → Follows h s (x ∷ xs) u
    go None i on k = absurd cc
    go (Some v) i on k = position.Follows.there i (on v k)

-- from where the beginning of a list leads its end is followed to where the list does
pub follows_end : {h : Graph} (z x : List Symbol) {s u : ℕ} → Leads h z s → Leads h (z ++ x) u → Follows h s x u
follows_end z x {s} {u} l k =
    let (r, there, e) = leads_parts z x k in
    follows_by x s u (rw (leads_once l there) e)
