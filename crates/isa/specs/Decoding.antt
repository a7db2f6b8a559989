-- From a word to its form (document 01, "Words"; codes: "Codes and their order").
use Rattle.std.specs.Prelude.{ℕ, ◌-◌, ◌*◌, ◌^◌, cond, List, [], ◌∷◌, ltb, eqb, Option, Some, None}
use Rattle.bits.specs.Fields.{bits_at}
use Rattle.isa.specs.declared.Mode.{Mode}
use Rattle.isa.specs.declared.Mode.TheVariants.{Post, Pre, Offset}
use Rattle.isa.specs.declared.AddSubOp.{AddSubOp}
use Rattle.isa.specs.declared.AddSubOp.TheVariants.{Addg, Subg}
use Rattle.isa.specs.declared.TwoSourceOp.{TwoSourceOp}
use Rattle.isa.specs.declared.TwoSourceOp.TheVariants.{Subp, Subps, Irg, Gmi}
use Rattle.isa.specs.declared.TagStoreOp.{TagStoreOp}
use Rattle.isa.specs.declared.TagStoreOp.TheVariants.{Stg, Stzg, St2g, Stz2g}
use Rattle.isa.specs.declared.Form.{Form}
use Rattle.isa.specs.declared.Form.TheVariants.{AddSub, TwoSource, Ldg, TagStore, Stgp}
use Rattle.isa.specs.Words.{word_of}

-- the bytes of a signed count of granules in a field of 2 * half values, modulo 2 ^ 64
abbrev pub signed_amount : ℕ → ℕ → ℕ
signed_amount half imm = cond (ltb imm half) (imm * 16) (2 ^ 64 - (2 * half - imm) * 16)

-- each form with the fields that a word has in its places

abbrev pub add_sub_at : AddSubOp → ℕ → Form
add_sub_at op w = AddSub op (bits_at w 0 5) (bits_at w 5 5) (bits_at w 16 6 * 16) (bits_at w 10 4)

abbrev pub two_source_at : TwoSourceOp → ℕ → Form
two_source_at op w = TwoSource op (bits_at w 0 5) (bits_at w 5 5) (bits_at w 16 5)

abbrev pub ldg_at : ℕ → Form
ldg_at w = Ldg (bits_at w 0 5) (bits_at w 5 5) (signed_amount 256 (bits_at w 12 9))

abbrev pub tag_store_at : TagStoreOp → Mode → ℕ → Form
tag_store_at op mode w = TagStore op mode (bits_at w 0 5) (bits_at w 5 5) (signed_amount 256 (bits_at w 12 9))

abbrev pub stgp_at : Mode → ℕ → Form
stgp_at mode w = Stgp mode (bits_at w 0 5) (bits_at w 10 5) (bits_at w 5 5) (signed_amount 64 (bits_at w 15 7))

unfoldable pub forms_at : ℕ → List Form
forms_at w =
    add_sub_at Addg w ∷ add_sub_at Subg w
    ∷ two_source_at Subp w ∷ two_source_at Subps w ∷ two_source_at Irg w ∷ two_source_at Gmi w
    ∷ ldg_at w
    ∷ tag_store_at Stg Post w ∷ tag_store_at Stg Pre w ∷ tag_store_at Stg Offset w
    ∷ tag_store_at Stzg Post w ∷ tag_store_at Stzg Pre w ∷ tag_store_at Stzg Offset w
    ∷ tag_store_at St2g Post w ∷ tag_store_at St2g Pre w ∷ tag_store_at St2g Offset w
    ∷ tag_store_at Stz2g Post w ∷ tag_store_at Stz2g Pre w ∷ tag_store_at Stz2g Offset w
    ∷ stgp_at Post w ∷ stgp_at Pre w ∷ stgp_at Offset w ∷ []

-- the first of some forms whose word is w
unfoldable pub form_of : ℕ → List Form → Option Form
form_of w [] = None
form_of w (f ∷ fs) = cond (eqb (word_of f) w) (Some f) (form_of w fs)

-- the form whose word is w, if there is one
unfoldable pub decode_of : ℕ → Option Form
decode_of w = form_of w (forms_at w)

-- the code of that answer: 0 DONE, 2 UNDEFINED for none
abbrev pub decoded_code : Option Form → ℕ
decoded_code (Some f) = 0
decoded_code None = 2
