mod Threads
