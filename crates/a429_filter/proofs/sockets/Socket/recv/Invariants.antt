use Rattle.std.proofs.Common.{◌≡◌, ◌<◌, ◌++◌, List, ℕ, length, []}
use Rattle.std.specs.Prelude.{filter, map, option_map, false, Ok, Some}
use Rattle.std.specs.List.{FoldsTo}
use Rattle.a429_filter.specs.Receiving.{accepts}
use Rattle.a429_filter.proofs.sockets.Socket.recv.Given as goal

-- each word that was taken so far was refused
abbrev pub invariant-loop-look : goal.invariant-loop-look
invariant-loop-look g l =
    record {
      taken : (refused : List ℕ) × (g.L.LineSource.given l.self-inside.source ≡ g.L.LineSource.given l.fn.self.source ++ refused)
          × (g.L.LineSource.left l.fn.self.source ≡ option_map (λ more. refused ++ more) (g.L.LineSource.left l.self-inside.source))
          × (filter (accepts l.self-inside.filters) refused ≡ []) × (length refused ≡ l.look);
      asked : (taken : List ℕ) × (g.L.LineSource.given l.self-inside.source ≡ g.L.LineSource.given l.fn.self.source ++ taken)
          × FoldsTo g.L.LineSource.steps l.fn.self.source (map (λ raw. Ok (Some raw)) taken) l.self-inside.source;
      filters : l.self-inside.filters ≡ l.fn.self.filters;
      failed : g.L.LineSource.failed l.self-inside.source ≡ g.L.LineSource.failed l.fn.self.source;
      ended : 0 < l.look → g.L.LineSource.ended l.self-inside.source ≡ false;
    }
