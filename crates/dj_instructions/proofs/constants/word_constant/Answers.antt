use Rattle.dj_instructions.proofs.constants.word_constant.Goals as goal

pub returns-in-Class : goal.returns-in-Class
returns-in-Class c = record { meant = rw (← c.in-Some.ensures.entry, c.in-Class.is) c.class_constant.ensures.meant }

pub returns-in-MethodHandle : goal.returns-in-MethodHandle
returns-in-MethodHandle c = record { meant = rw (← c.in-Some.ensures.entry, c.in-MethodHandle.is) c.method_handle.ensures.meant }

pub returns-in-MethodType : goal.returns-in-MethodType
returns-in-MethodType c = record { meant = rw (← c.in-Some.ensures.entry, c.in-MethodType.is) c.method_type.ensures.meant }
