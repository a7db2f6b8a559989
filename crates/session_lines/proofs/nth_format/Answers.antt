-- `session_lines::nth_format` meets its contract: each arm has the format of its index. Assumes nothing.
use Rattle.std.proofs.Common.{ℕ, List, Bor, ◌≡◌, refl, ap, arith}
use Rattle.session_lines.specs.LineFormats.{LineFormat, format_of, front_formats}
use Rattle.session_lines.proofs.LineFormats.{word_format_lem}
use Rattle.session_lines.proofs.nth_format.Goals as goal
use Rattle.session_lines.proofs.nth_format.Goals.{in-0, in-1, in-2, in-3, in-4, in-5, in-6, in-7, in-8, in_default}

-- what an arm gives has the parts of a format
abbrev Parts : LineFormat → Bor (List ℕ) × ℕ × ℕ → Type 0
Parts format x = (x.0.now ≡ format.key) × (x.1 ≡ format.digits) × (x.2 ≡ format.most)

parts : (x y : Bor (List ℕ) × ℕ × ℕ) (f g : LineFormat) → x ≡ y → f ≡ g → Parts g y → Parts f x
parts x y f g e h p = rw (e, h) p

all : (c : goal.After-key-1) → Parts (format_of c.args.i) c.match-i.digits
unfolding format_of front_formats
all c =
    elim c.match-i.branch [
      | in-0 w ↦ parts _ _ _ (format_of 0) w.digits-is (ap format_of w.in-0.is) (refl, refl, refl)
      | in-1 w ↦ parts _ _ _ (format_of 1) w.digits-is (ap format_of w.in-1.is) (refl, refl, refl)
      | in-2 w ↦ parts _ _ _ (format_of 2) w.digits-is (ap format_of w.in-2.is) (refl, refl, refl)
      | in-3 w ↦ parts _ _ _ (format_of 3) w.digits-is (ap format_of w.in-3.is) (refl, refl, refl)
      | in-4 w ↦ parts _ _ _ (format_of 4) w.digits-is (ap format_of w.in-4.is) (refl, refl, refl)
      | in-5 w ↦ parts _ _ _ (format_of 5) w.digits-is (ap format_of w.in-5.is) (refl, refl, refl)
      | in-6 w ↦ parts _ _ _ (format_of 6) w.digits-is (ap format_of w.in-6.is) (refl, refl, refl)
      | in-7 w ↦ parts _ _ _ (format_of 7) w.digits-is (ap format_of w.in-7.is) (refl, refl, refl)
      | in-8 w ↦ parts _ _ _ (format_of 8) w.digits-is (ap format_of w.in-8.is) (refl, refl, refl)
      | in_default w ↦ parts _ _ _ _ w.digits-is (word_format_lem c.args.i (omega arith)) (refl, refl, refl)
    ]

pub returns : goal.returns
returns c = record { key = (all c).0; digits = (all c).1; most = (all c).2 }
