use Rattle.std.proofs.Common.{rules, arith, ap, sym, codes}
use Rattle.std.proofs.lemmas.Slice.Eq.{text_from_reads}
use Rattle.lab_text.specs.Line.{form_of}
use Rattle.lab_text.proofs.form.form_named.Goals as goal

pub returns-in-fill : goal.returns-in-fill
returns-in-fill c = sym (ap form_of (text_from_reads c.args.word.now (codes "fill") (omega arith) (search rules)))

pub returns-in-old : goal.returns-in-old
returns-in-old c = sym (ap form_of (text_from_reads c.args.word.now (codes "old") (omega arith) (search rules)))

pub returns-in-load : goal.returns-in-load
returns-in-load c = sym (ap form_of (text_from_reads c.args.word.now (codes "load") (omega arith) (search rules)))

pub returns-in-move : goal.returns-in-move
returns-in-move c = sym (ap form_of (text_from_reads c.args.word.now (codes "move") (omega arith) (search rules)))

pub returns-in-frame : goal.returns-in-frame
returns-in-frame c = sym (ap form_of (text_from_reads c.args.word.now (codes "frame") (omega arith) (search rules)))

pub returns-in-up : goal.returns-in-up
returns-in-up c = sym (ap form_of (text_from_reads c.args.word.now (codes "up") (omega arith) (search rules)))

pub returns-in-down : goal.returns-in-down
returns-in-down c = sym (ap form_of (text_from_reads c.args.word.now (codes "down") (omega arith) (search rules)))

pub returns-in-tick : goal.returns-in-tick
returns-in-tick c = sym (ap form_of (text_from_reads c.args.word.now (codes "tick") (omega arith) (search rules)))

pub returns-in-reload : goal.returns-in-reload
returns-in-reload c = sym (ap form_of (text_from_reads c.args.word.now (codes "reload") (omega arith) (search rules)))

pub returns-in-strayup : goal.returns-in-strayup
returns-in-strayup c = sym (ap form_of (text_from_reads c.args.word.now (codes "strayup") (omega arith) (search rules)))

pub returns-in-straydown : goal.returns-in-straydown
returns-in-straydown c = sym (ap form_of (text_from_reads c.args.word.now (codes "straydown") (omega arith) (search rules)))
