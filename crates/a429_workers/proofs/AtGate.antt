-- Cells that a group's loop gives its sink, one after another, each between two questions to its gate.
use Rattle.std.proofs.Common.{◌≡◌, ℕ, ◌+◌, ◌∙◌, sym, subst, inl, inr, arith}
use Rattle.std.specs.Prelude.{Ok, Err, zero, suc}
use Rattle.a429_workers.specs.Gates.{GatePoints, point_before_cell}
use Rattle.a429_workers.specs.GateOrder.{AreCellsInOrder, IsCellUntil, IsCellInOrder, IsFrameInOrder, IsLoopInOrder}
use Rattle.a429_workers.specs.declared.sinks.BusSink as BusSink
use Rattle.a429_workers.specs.declared.sending.SendFault.{SendFault}
use Rattle.a429_workers.specs.declared.sending.SendFault.TheVariants.{Gate, Sink, Change}

module _ {B : Type 0} (gate : GatePoints) (sink : BusSink.Ghosts B) (g : ℕ) where
  -- one cell more
  pub order_more : (n many number : ℕ) (old mid new : B) → number ≡ n + many → AreCellsInOrder gate sink g n many old mid → IsCellInOrder gate sink g number mid new → AreCellsInOrder gate sink g n (many + 1) old new
  order_more n many number old mid new is all one =
      let grown : suc many ≡ many + 1 = omega arith in
      subst (λ (k : ℕ). AreCellsInOrder gate sink g n k old new) grown (mid, all, subst (λ (k : ℕ). IsCellInOrder gate sink g k mid new) is one)

  -- one stretch of cells after another
  pub order_append : (n a b : ℕ) (old mid new : B) → AreCellsInOrder gate sink g n a old mid → AreCellsInOrder gate sink g (n + a) b mid new → AreCellsInOrder gate sink g n (a + b) old new
  order_append n a zero old mid new first rest =
      subst (λ (s : B). AreCellsInOrder gate sink g n (a + 0) old s) (sym rest) (subst (λ (k : ℕ). AreCellsInOrder gate sink g n k old mid) (omega arith) first)
  order_append n a (suc b) old mid new first rest =
      let all : AreCellsInOrder gate sink g n (a + b) old rest.0 = order_append n a b old mid rest.0 first rest.1 in
      let more : AreCellsInOrder gate sink g n ((a + b) + 1) old new = order_more n (a + b) ((n + a) + b) old rest.0 new (omega arith) all rest.2 in
      subst (λ (k : ℕ). AreCellsInOrder gate sink g n k old new) (omega arith) more

  -- a fault ended the frame at its next cell
  pub frame_order_cut : (n many number later : ℕ) (old mid new : B) (fault : SendFault) → number ≡ n + many → AreCellsInOrder gate sink g n many old mid → IsCellUntil gate sink g number later mid new (Err fault)
      → IsFrameInOrder {A = Unit {0}} gate sink g n later old new (Err fault)
  frame_order_cut n many number later old mid new Gate is all cut = elim cut [
    | inl left ↦ record { many = many; counted = left.0 ∙ is; cells = subst (λ (s : B). AreCellsInOrder gate sink g n many old s) (sym left.1) all }
    | inr one ↦ record { many = many + 1; counted = one.0 ∙ omega (arith, is); cells = order_more n many number old mid new is all one.1 }
  ]
  frame_order_cut n many number later old mid new Change is all cut = absurd cut
  frame_order_cut n many number later old mid new Sink is all cut = record {
    many = many;
    counted = cut.0 ∙ is;
    cells = record { at = mid; cells = all; first = subst (λ (k : ℕ). gate.asked (point_before_cell g k) B mid) is cut.1; left = cut.2 };
  }

  -- a frame after whole frames
  pub frames_order_on : (cells later : ℕ) (old mid new : B) → AreCellsInOrder gate sink g 0 cells old mid → IsFrameInOrder {A = Unit {0}} gate sink g cells later mid new (Ok tt) → AreCellsInOrder gate sink g 0 later old new
  frames_order_on cells later old mid new all F =
      subst (λ (k : ℕ). AreCellsInOrder gate sink g 0 k old new) (sym F.counted) (order_append 0 cells F.many old mid new all (subst (λ (k : ℕ). AreCellsInOrder gate sink g k F.many mid new) (omega arith) F.cells))

  pub frames_order_cut : (cells later : ℕ) (old mid new : B) (fault : SendFault) → AreCellsInOrder gate sink g 0 cells old mid → IsFrameInOrder {A = Unit {0}} gate sink g cells later mid new (Err fault) → IsLoopInOrder gate sink g old new (Err fault)
  frames_order_cut cells later old mid new Gate all F = record {
    many = cells + F.many;
    counted = tt;
    cells = order_append 0 cells F.many old mid new all (subst (λ (k : ℕ). AreCellsInOrder gate sink g k F.many mid new) (omega arith) F.cells);
  }
  frames_order_cut cells later old mid new Change all F = record {
    many = cells + F.many;
    counted = tt;
    cells = order_append 0 cells F.many old mid new all (subst (λ (k : ℕ). AreCellsInOrder gate sink g k F.many mid new) (omega arith) F.cells);
  }
  frames_order_cut cells later old mid new Sink all F =
      let E = F.cells in
      record {
        many = cells + F.many;
        counted = tt;
        cells = record {
          at = E.at;
          cells = order_append 0 cells F.many old mid E.at all (subst (λ (k : ℕ). AreCellsInOrder gate sink g k F.many mid E.at) (omega arith) E.cells);
          first = subst (λ (k : ℕ). gate.asked (point_before_cell g k) B E.at) (omega arith) E.first;
          left = E.left;
        };
      }

  -- the next frame was not taken
  pub frames_order_end : (cells : ℕ) (old mid : B) (fault : SendFault) → fault ≡ Change → AreCellsInOrder gate sink g 0 cells old mid → IsLoopInOrder gate sink g old mid (Err fault)
  frames_order_end cells old mid Change is all = record { many = cells; counted = tt; cells = all }
  frames_order_end cells old mid Gate is all = absurd (cc is)
  frames_order_end cells old mid Sink is all = absurd (cc is)
