-- The theorem: every number of sites from 2 to 8 has what demand 3 asks.
-- Assumes nothing.
use Prim.Native.Nat.{ℕ, ◌≤◌}
use native.Mathlib.Omega.{arith}
use Rattle.promise.specs.Promise.{Promise}
use Rattle.promise.proofs.Examples.{posting, longest, posting_commits, posting_writes, longest_accepts}
use Rattle.promise.proofs.Reached.{agree, committed, aborted, halted, vote, peace, decide}
use Rattle.promise.proofs.Falling.{within_bound, accepted_bound}

pub promised : (n : ℕ) → 2 ≤ n → n ≤ 8 → Promise n
promised n least most =
    record {
      agreement = agree n least most;
      commit_stays = committed n least most;
      abort_stays = aborted n least most;
      stopped_stays = halted n least most;
      all_voted = vote n least most;
      only_stops_left = decide n least most;
      event_bound = λ es. omega (arith, accepted_bound n least most es, within_bound n least most);
      never_conflict = peace n least most;
      posts = (posting n, λ i p. posting_commits n least most i p.0 p.1, posting_writes n least most);
      exact_bound = (accepted_bound n least most, (longest n, longest_accepts n least most));
    }
